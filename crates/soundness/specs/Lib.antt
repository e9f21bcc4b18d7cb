pub mod Facts
pub mod Places
pub mod Ready
pub mod Tests
