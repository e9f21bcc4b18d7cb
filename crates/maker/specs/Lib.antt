pub mod Maker
pub mod Fitting
