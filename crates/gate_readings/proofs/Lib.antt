pub mod Asked
