pub mod AfterOne
pub mod MostAndLeast
pub mod Alone
pub mod Asking
pub mod Spoiled
pub mod NotRed
pub mod Mending
