pub mod Limits
pub mod Numbered
pub mod Refusals
pub mod Showings
pub mod Slots
pub mod Units
