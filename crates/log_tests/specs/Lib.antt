pub mod RunCode
pub mod FeedCode
