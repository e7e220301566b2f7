pub mod Permuted
pub mod PutIn
pub mod Begun
pub mod ByKeys
pub mod Allowed
