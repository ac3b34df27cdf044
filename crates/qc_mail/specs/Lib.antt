pub mod Serving
pub mod Once
pub mod Letters
pub mod Mails
