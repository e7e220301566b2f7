pub mod Sets
pub mod Pairs
