pub mod Agree
pub mod Compare
