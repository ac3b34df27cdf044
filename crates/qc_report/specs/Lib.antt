pub mod Report
pub mod LastValues
pub mod Indexed
pub mod Counts
