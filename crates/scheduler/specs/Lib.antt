pub mod Answers
pub mod Count
pub mod Ways
