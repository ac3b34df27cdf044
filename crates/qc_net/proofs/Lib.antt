pub mod Turns
pub mod Left
pub mod Steps
pub mod Waits
pub mod Sendings
