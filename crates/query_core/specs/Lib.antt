pub mod Meaning
pub mod Hits
pub mod Sorting
pub mod Order
pub mod Page
pub mod PageNumber
pub mod Levels
