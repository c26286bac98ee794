pub mod Table
pub mod Situations
pub mod Laws
pub mod Upstream
