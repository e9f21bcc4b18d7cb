pub mod FieldWays
