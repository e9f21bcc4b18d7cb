pub mod ByLength
pub mod Calls
pub mod Inner
pub mod Judged
pub mod Limits
