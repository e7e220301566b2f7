-- The definitions of what a session says and of what its records do, in the order of reading.
pub mod Input
pub mod Kinds
pub mod Sessions
pub mod Pokes
pub mod Played
