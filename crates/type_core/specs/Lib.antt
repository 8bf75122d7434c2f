pub mod Names
pub mod Content
pub mod Checked
pub mod Least
pub mod Sound
pub mod Kept
pub mod Types
