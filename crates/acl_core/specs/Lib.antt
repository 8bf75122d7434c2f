pub mod Known
pub mod Table
pub mod File
pub mod Caller
pub mod Granting
pub mod Rights
pub mod Example
