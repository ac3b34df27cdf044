pub mod Image
pub mod State
pub mod Device
pub mod Fault
pub mod Found
pub mod Journal
