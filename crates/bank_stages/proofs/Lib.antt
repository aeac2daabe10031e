pub mod Loops
pub mod Stages
