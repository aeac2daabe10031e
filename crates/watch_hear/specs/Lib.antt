pub mod Judged
pub mod Heard
