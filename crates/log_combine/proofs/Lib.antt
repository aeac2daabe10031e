pub mod Counts
pub mod InStep
pub mod Judges
pub mod Answered
