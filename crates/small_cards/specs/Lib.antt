pub mod Cards
pub mod Computed
pub mod Form
pub mod Listed
pub mod Next
pub mod Order
pub mod Steps
