pub mod Floor
pub mod Sources
