pub mod Depths
pub mod Totals
pub mod Texts
pub mod Forms
pub mod Distinct
pub mod Between
pub mod Written
