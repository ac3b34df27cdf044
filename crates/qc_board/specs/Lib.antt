pub mod Boards
pub mod Marks
