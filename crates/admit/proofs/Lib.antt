pub mod Admitting
pub mod Refusing
