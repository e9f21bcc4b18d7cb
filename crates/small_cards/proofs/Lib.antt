pub mod Form
pub mod Listed
pub mod Steps
