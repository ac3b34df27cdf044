-- What a store's pairs of disks keep of its history.
pub mod WrittenBodies
pub mod ActiveDisks
pub mod FoldedDisks
pub mod PairsStand
pub mod FoldCutOff
pub mod CutOffPairs
pub mod NextMounting
pub mod RenewedImages
mod WorkedPairs
mod WorkedFolds
pub mod NextBases
pub mod ImagesKept
