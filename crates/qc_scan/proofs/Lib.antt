pub mod Found
pub mod Everyone
pub mod Stands
pub mod Ranges
pub mod Raised
pub mod Stages
pub mod Search
