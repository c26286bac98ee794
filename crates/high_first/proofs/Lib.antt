pub mod Stores
pub mod Placed
