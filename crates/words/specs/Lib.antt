pub mod Cases
pub mod Laws
pub mod Words
pub mod Zero
