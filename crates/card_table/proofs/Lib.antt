pub mod TableWays
