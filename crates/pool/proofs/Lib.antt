pub mod Turns
pub mod ClosedUp
pub mod FoundLaws
