pub mod Cells
pub mod Operations
pub mod Asked
pub mod Log
