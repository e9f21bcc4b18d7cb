pub mod Fetching
pub mod Sweeping
