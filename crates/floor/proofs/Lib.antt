pub mod Levels
pub mod Summing
