pub mod Judging
pub mod First
pub mod Settled
