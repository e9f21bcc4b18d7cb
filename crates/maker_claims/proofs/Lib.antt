pub mod Accepted
pub mod Refused
pub mod Spelling
