pub mod Closing
pub mod Folds
pub mod Grown
pub mod Kept
pub mod Left
pub mod Pairs
pub mod Parts
