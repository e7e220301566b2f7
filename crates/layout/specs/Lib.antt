-- The definitions of numbers in bytes and of where a board file has everything, in the order of reading.
pub mod Bytes
pub mod Layout
