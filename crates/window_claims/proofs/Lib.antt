pub mod WorstLaws
