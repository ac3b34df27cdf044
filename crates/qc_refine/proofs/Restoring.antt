-- What disks restore.
pub mod BelowReady
pub mod LoggedTops
pub mod RestoredTuples
pub mod RestoredSound
pub mod ListedNames
pub mod FoldedPairs
pub mod Actives
pub mod ImageReadings
pub mod RestoredBases
pub mod PairImages
pub mod ActiveImages
pub mod GrownImages
