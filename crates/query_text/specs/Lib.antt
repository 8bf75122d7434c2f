pub mod Query
pub mod Parts
pub mod Spelling
pub mod Faults
pub mod Stages
pub mod Reading
