pub mod Bench
pub mod Cases
pub mod Story
pub mod Asking
pub mod Watching
