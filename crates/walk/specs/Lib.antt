pub mod Meets
pub mod Walk
