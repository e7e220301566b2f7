pub mod Withdrawing
