pub mod Subjects
pub mod Requests
pub mod Asks
pub mod Tables
pub mod Names
pub mod Indexed
