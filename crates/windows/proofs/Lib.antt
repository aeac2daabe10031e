pub mod Begun
pub mod Loops
pub mod Steps
