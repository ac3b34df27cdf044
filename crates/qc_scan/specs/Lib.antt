pub mod Children
pub mod Blocked
pub mod Raised
