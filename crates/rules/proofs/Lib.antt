pub mod OneResult
pub mod Ranged
