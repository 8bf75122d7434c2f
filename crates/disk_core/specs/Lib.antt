pub mod Disk
pub mod Runs
pub mod Past
pub mod Counts
pub mod Memory
pub mod Fused
pub mod Torn
pub mod PastLaws
