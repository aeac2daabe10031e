pub mod Rights
pub mod Roles
