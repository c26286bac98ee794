pub mod Job
pub mod Stopped
pub mod Deadlock
