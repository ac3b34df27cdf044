pub mod FirstTold
pub mod Asking
pub mod Tabling
pub mod Depths
