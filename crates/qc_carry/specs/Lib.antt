pub mod Walk
pub mod Access
pub mod Kept
pub mod Seeing
pub mod Carried
pub mod Acting
pub mod Branching
