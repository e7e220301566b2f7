pub mod InOrder
pub mod Keys
