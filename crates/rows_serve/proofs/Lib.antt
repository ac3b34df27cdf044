pub mod TwoRecords
pub mod Children
pub mod Stages
pub mod Commits
pub mod First
pub mod Later
pub mod Ended
