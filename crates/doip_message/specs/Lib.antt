pub mod Asked
pub mod Reading
pub mod Fields
pub mod Reply
pub mod Fixed
pub mod Pairs
pub mod Appended
