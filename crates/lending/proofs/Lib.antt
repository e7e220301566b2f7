pub mod Steps
pub mod Telling
pub mod Layer
