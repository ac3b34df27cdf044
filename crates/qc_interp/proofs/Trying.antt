-- The tries of a body.
pub mod OneTry
pub mod Tried
pub mod TriesLead
pub mod TriesLeft
pub mod Failing
pub mod TriesAlike
pub mod ChildAnswers
