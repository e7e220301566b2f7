-- The definitions of a board as a file and of what saving promises, in the order of reading.
pub mod FileOf
pub mod Saves
