pub mod Hops
pub mod Going
