pub mod Breaks
pub mod Field
pub mod Letters
pub mod Reach
pub mod Scalar
