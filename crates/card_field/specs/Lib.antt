pub mod Figure
pub mod RangeLaws
pub mod Ranges
pub mod Row
