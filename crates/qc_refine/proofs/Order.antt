-- The serial order, and the values in it.
pub mod DonesWalk
pub mod CopiesSerial
pub mod Grounded
pub mod ForGood
pub mod LastValues
pub mod KeptForGood
