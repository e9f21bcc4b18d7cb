pub mod Pairs
pub mod Shelf
pub mod Showing
