pub mod Real
pub mod Disk
