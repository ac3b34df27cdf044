pub mod Requests
pub mod TwoRecords
