pub mod Moments
pub mod Images
pub mod Appends
mod Reopens
pub mod Readings
mod Growing
mod Resets
mod TornFront
