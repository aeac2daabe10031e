pub mod AllCalls
pub mod Alone
pub mod Rows
