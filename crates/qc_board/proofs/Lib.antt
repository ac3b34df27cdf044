pub mod Moves
pub mod Seating
