pub mod Bit
pub mod Tag
pub mod HighFirst
pub mod Signed
pub mod Below
