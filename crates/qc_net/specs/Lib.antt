pub mod Plan
pub mod PlanLink
pub mod Given
pub mod Sending
pub mod Courier
pub mod Messages
