pub mod Renewals
pub mod Refreshed
