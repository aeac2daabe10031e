pub mod Taken
pub mod Chosen
pub mod Theorems
pub mod Examples
