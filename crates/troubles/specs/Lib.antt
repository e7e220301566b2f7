pub mod Setting
pub mod Mending
pub mod Troubles
pub mod Reaching
pub mod Weighing
