pub mod Levels
pub mod Examples
