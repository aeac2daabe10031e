pub mod Explains
pub mod Reached
