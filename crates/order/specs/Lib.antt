pub mod Outcome
pub mod Cells
pub mod Clash
pub mod Every
pub mod Reordered
