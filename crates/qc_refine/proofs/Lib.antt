pub mod Worked
mod WorkedRestored
pub mod WorkedPairs
pub mod Copies
pub mod Managers
pub mod Order
pub mod Restoring
