pub mod Moves
pub mod Receipts
