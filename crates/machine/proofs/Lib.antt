pub mod Size
pub mod CurrentThread
pub mod Priority
