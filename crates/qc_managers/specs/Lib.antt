pub mod Told
pub mod Heard
pub mod Gathered
pub mod Carrying
pub mod Answered
pub mod Managed
pub mod Going
pub mod Undisturbed
