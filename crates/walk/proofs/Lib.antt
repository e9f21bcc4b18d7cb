mod Layings
pub mod Runs
