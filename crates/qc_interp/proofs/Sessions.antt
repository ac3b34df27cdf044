-- The tops of a session, and sessions together.
pub mod FromStart
pub mod TopsRun
pub mod TopsLead
pub mod TopLoops
pub mod SeenBodies
pub mod ReadyTops
pub mod Owners
pub mod OwnSessions
pub mod Settled
pub mod Together
pub mod TopAnswers
