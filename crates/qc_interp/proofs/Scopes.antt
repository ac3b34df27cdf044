-- What concerns a name, and what a client made of it.
pub mod Scope
pub mod Adding
pub mod Mine
pub mod Growth
pub mod Seats
pub mod Starts
pub mod Kept
pub mod Beside
pub mod Began
pub mod Apart
