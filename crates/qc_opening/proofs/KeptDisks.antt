-- What a store's disks keep of its history.
pub mod InOrder
pub mod Lists
pub mod LedgerRecords
pub mod CopyRecords
pub mod LoggedRecords
pub mod CopyImages
pub mod LedgerImages
pub mod Choices
pub mod Stands
pub mod Restarts
pub mod OneImage
pub mod CutOff
pub mod Worked
pub mod KeptPairs
