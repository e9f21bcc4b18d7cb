pub mod Ahead
pub mod Entries
pub mod RoundTrip
pub mod RowTrip
pub mod ShelfTrip
pub mod Size
pub mod TableTrip
