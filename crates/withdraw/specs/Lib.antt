pub mod Withdraws
