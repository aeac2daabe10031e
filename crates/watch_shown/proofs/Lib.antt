pub mod AsCalls
pub mod Whole
