pub mod Fetching
pub mod Inserting
pub mod Reading
