pub mod NumberLaws
pub mod Number
