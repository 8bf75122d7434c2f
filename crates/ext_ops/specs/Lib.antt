pub mod Extended
pub mod Hook
pub mod Offered
