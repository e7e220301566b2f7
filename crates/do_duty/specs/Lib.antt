pub mod Does
pub mod Inside
