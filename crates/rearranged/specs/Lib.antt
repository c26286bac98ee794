pub mod Clash
pub mod Rearranged
pub mod Exhibit
