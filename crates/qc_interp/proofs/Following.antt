-- What follows a plan, by which entries.
pub mod Deeds
pub mod Followed
pub mod Still
pub mod Turning
pub mod Alike
pub mod Seen
pub mod RanLater
pub mod Behind
