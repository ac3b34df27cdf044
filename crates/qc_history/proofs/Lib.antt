pub mod Placing
pub mod Spots
pub mod Finding
pub mod Changing
pub mod Pushing
mod Outlines
pub mod Children
pub mod Looking
pub mod OpenTops
pub mod Beside
pub mod FirstEntries
pub mod Answering
pub mod Marked
pub mod Linking
pub mod AbortsBelow
pub mod GrantPlaces
