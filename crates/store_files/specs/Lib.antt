pub mod Rewriting
pub mod First
