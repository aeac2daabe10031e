pub mod Taken
pub mod Beside
pub mod Runs
pub mod Claims
pub mod Histories
