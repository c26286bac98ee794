pub mod Codes
pub mod FeedCodes
pub mod Accepted
