pub mod Found
pub mod Asking
pub mod Halving
