pub mod Origins
pub mod Explains
pub mod Cases
