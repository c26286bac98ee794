pub mod Answers
pub mod OneResult
