pub mod Runs
pub mod Hops
pub mod Claims
pub mod Fed
