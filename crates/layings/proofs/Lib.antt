pub mod Arranged
pub mod Numbered
pub mod Times
