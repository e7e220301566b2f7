pub mod Stands
pub mod Fields
pub mod Parts
pub mod Records
pub mod Places
pub mod ReadBack
pub mod BytesBack
pub mod Case8
