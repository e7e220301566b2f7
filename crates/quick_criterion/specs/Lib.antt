pub mod Tests
pub mod Mends
