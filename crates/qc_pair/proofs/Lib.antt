pub mod Bases
pub mod Folds
pub mod Halves
