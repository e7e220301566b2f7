pub mod Gathered
pub mod Neighbours
pub mod Climbing
pub mod Keyed
pub mod Whole
