pub mod Opening
pub mod Settled
pub mod Tick
