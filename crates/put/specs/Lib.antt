-- Bytes put at a place of a room, and what a writer has to do with them.
pub mod Put
pub mod Writes
