pub mod EveryLock
pub mod Unwound
pub mod Turns
pub mod Setups
pub mod Refused
pub mod Lengths
pub mod Pieces
pub mod Codes
