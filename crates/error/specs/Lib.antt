pub mod Codes
pub mod Answer
