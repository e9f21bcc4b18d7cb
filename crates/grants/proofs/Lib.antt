pub mod Starting
pub mod Lining
pub mod Granting
pub mod Tried
