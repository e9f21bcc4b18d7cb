pub mod Layout
pub mod Legal
pub mod RoundTrip
