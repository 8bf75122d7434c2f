pub mod Name
pub mod Elements
pub mod Shown
pub mod Object
pub mod Parts
pub mod Lengths
