pub mod Listed
pub mod Bests
pub mod Further
pub mod ForGood
