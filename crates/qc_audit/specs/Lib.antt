pub mod Illegal
pub mod Walks
pub mod Saved
pub mod Verdicts
