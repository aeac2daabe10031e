pub mod Samples
pub mod Stages
pub mod Turns
pub mod Looks
