mod Growing
pub mod Within
mod Seldom
pub mod Outlined
