-- What complete managers find and leave at the copies of a record.
pub mod Meet
pub mod Grants
pub mod Folds
pub mod Configs
pub mod Collections
pub mod Writes
pub mod Moves
pub mod Columns
pub mod InTurn
pub mod Within
pub mod Fits
pub mod Grown
pub mod NoneAbove
pub mod Grids
