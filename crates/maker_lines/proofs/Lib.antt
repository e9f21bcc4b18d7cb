pub mod LineWays
