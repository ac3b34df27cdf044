pub mod Words
pub mod Options
pub mod Commands
pub mod FaultLine
pub mod Run
pub mod Audit
pub mod Left
pub mod Auditing
