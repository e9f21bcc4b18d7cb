pub mod Films
pub mod Legality
pub mod Room
pub mod Zeros
