pub mod Within
pub mod Positions
pub mod Sequence
pub mod Commute
pub mod Every
pub mod Lists
