-- The definitions of a board file and of what reading one promises, in the order of reading.
pub mod Records
pub mod Reads
pub mod Parts
