pub mod DigitWays
