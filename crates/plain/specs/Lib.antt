pub mod Walks
pub mod Walking
