pub mod FitsLaws
pub mod AfterLaws
mod Room
