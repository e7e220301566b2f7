pub mod Settled
pub mod Words
pub mod NumberLaws
pub mod DecimalIs
pub mod Examples
