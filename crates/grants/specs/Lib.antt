pub mod Grants
pub mod Line
pub mod Laws
