-- The laws of a board file and of reading one, in the order of reading.
pub mod Filled
pub mod FirstFault
pub mod Accepted
pub mod Settled
