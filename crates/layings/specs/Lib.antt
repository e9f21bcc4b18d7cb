pub mod Arranged
pub mod Layings
pub mod Numbered
pub mod Smallest
pub mod Times
