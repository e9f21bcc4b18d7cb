pub mod RowWays
