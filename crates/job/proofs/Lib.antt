pub mod NoInheritance
pub mod Exclusion
pub mod Undone
pub mod Stopped
pub mod Deadlock
