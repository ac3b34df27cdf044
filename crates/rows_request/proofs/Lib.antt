pub mod OneCopy
pub mod OwnAccess
pub mod Asking
