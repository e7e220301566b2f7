pub mod ActsNow
