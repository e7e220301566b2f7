pub mod ByKind
pub mod Settled
pub mod OneBoard
pub mod AsCalls
pub mod Carried
pub mod ByteByByte
