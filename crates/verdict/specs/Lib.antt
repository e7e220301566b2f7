pub mod Judging
pub mod Checked
