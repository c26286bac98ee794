pub mod Laws
pub mod Upstream
mod Tests
