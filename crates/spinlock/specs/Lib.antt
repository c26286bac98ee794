pub mod Table
pub mod Lock
