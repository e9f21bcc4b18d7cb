pub mod Answers
pub mod Moves
pub mod Places
pub mod Refused
