pub mod Run
pub mod AccountsFile
pub mod Session
pub mod Start
pub mod Answer
pub mod Files
pub mod Rewrites
pub mod Commands
