pub mod Puts
pub mod Bytes
