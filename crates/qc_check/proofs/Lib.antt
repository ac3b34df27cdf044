pub mod Decides
pub mod Fronts
pub mod Requested
