pub mod Judging
pub mod Answered
pub mod Settled
pub mod Tick
