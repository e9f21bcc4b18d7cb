pub mod Sweeps
pub mod Written
