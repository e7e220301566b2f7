pub mod Settled
pub mod PartLaws
pub mod FileLaws
pub mod Saving
