pub mod Literals
pub mod Grid
pub mod Rising
