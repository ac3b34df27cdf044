pub mod Replies
pub mod Numbers
pub mod Numbering
pub mod Whole
pub mod Made
pub mod Held
