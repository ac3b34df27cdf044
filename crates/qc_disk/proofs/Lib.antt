pub mod Moments
pub mod Kept
pub mod Restored
pub mod Turns
pub mod Stops
pub mod Shops
pub mod Between
