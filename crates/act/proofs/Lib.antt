pub mod Acting
pub mod Refusing
