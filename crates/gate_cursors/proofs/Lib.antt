pub mod Lengths
pub mod Pairs
