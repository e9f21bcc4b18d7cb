pub mod Worst
pub mod WorstLaws
