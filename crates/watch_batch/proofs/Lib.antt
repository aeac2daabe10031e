pub mod Batches
pub mod Firsts
