pub mod PutLaws
pub mod WriteLaws
