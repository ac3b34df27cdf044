pub mod Parts
pub mod Breaks
pub mod Refused
