pub mod Record
pub mod Rows
