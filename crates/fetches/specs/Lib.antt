pub mod Gap
pub mod Told
