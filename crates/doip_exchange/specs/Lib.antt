pub mod Question
pub mod Answer
pub mod Held
