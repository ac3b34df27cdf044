pub mod Reasons
pub mod Events
pub mod Trail
pub mod Saving
