pub mod Fold
pub mod Folding
pub mod Front
pub mod Opening
pub mod Pair
