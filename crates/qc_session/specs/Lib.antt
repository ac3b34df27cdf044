pub mod Acting
pub mod Clients
pub mod Lines
pub mod Managing
pub mod Keeping
pub mod Marking
pub mod Session
pub mod Tidy
