pub mod Lowered
pub mod Moves
pub mod Written
