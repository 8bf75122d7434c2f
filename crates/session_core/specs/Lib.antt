pub mod Reading
pub mod Saying
pub mod Texts
pub mod Session
pub mod Cuts
pub mod OneInput
