pub mod Listing
pub mod Spelling
pub mod Accepted
pub mod Fault
pub mod Refused
