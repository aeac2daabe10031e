pub mod Fails
pub mod Tallies
