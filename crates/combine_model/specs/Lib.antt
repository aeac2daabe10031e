pub mod Choose
pub mod Combined
pub mod Claims
