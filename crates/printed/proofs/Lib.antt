pub mod Length
pub mod Says
pub mod Settled
