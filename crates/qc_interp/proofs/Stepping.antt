-- The steps of a transaction.
pub mod Stopping
pub mod Asked
pub mod Managers
pub mod Ending
pub mod StepsLeave
pub mod ByAnswer
pub mod Marking
pub mod Asking
pub mod Results
pub mod Plans
pub mod Loops
pub mod Acted
