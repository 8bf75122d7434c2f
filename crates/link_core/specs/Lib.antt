pub mod Link
pub mod Host
pub mod Paths
pub mod Listener
pub mod Memory
pub mod Lists
pub mod Gate
