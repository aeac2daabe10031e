pub mod Answers
pub mod Explained
