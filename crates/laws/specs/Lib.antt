pub mod Marked
pub mod Accident
pub mod FormerForm
pub mod Pinned
