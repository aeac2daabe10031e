pub mod Makes
pub mod Levels
