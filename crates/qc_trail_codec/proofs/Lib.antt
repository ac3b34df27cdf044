mod Marks
mod Reasons
mod Events
mod Saved
mod Fits
mod InARow
mod Again
pub mod LegalEntries
