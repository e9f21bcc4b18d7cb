pub mod Layout
pub mod Parts
pub mod RoundTrip
pub mod Sized
pub mod Whole
