pub mod Tests
pub mod Sums
pub mod Facts
pub mod Examples
pub mod Loops
