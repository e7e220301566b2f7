pub mod Asked
pub mod Leaves
