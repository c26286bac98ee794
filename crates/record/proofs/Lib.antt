pub mod Table
pub mod Columns
pub mod Cases
pub mod Range
pub mod Laws
