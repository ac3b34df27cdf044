pub mod Tops
pub mod Children
pub mod Calls
pub mod Replying
pub mod Granting
pub mod FirstCopy
