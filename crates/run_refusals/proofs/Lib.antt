pub mod Refuses
