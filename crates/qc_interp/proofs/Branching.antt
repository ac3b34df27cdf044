-- Branches of a client: how they begin, run and are merged.
pub mod Joined
pub mod Branches
pub mod MadeBy
pub mod Shown
pub mod Tries
pub mod Left
pub mod Ends
pub mod Plans
pub mod Numbers
pub mod Begins
pub mod Answers
