pub mod Readable
pub mod Sources
