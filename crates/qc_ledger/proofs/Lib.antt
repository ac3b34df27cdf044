mod Told
pub mod Numbers
pub mod Firsts
pub mod Writing
pub mod Halves
pub mod Logging
pub mod Verdicts
pub mod Passes
pub mod Since
pub mod Calls
