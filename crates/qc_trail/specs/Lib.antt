pub mod Rare
pub mod Told
pub mod Outline
