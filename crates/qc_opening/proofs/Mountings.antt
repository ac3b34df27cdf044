-- What mountings found.
pub mod Numbered
pub mod Places
pub mod Row
pub mod Waits
pub mod Reasons
pub mod Disks
pub mod Sound
pub mod InTurn
pub mod Stores
pub mod Refused
pub mod PairVerdicts
pub mod Verdicts
