pub mod Widths
pub mod Laws
pub mod Upstream
pub mod OneResult
