pub mod Laws
pub mod Upstream
pub mod Walk
pub mod Places
