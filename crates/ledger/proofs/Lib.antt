pub mod Answers
pub mod Moves
pub mod Stands
pub mod Unwinds
pub mod Records
pub mod Laws
pub mod Fresh
