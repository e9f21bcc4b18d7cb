pub mod Table
pub mod TableFaults
pub mod TableLaws
