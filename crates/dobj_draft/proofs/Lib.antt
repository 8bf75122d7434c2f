pub mod Drafts
pub mod Pairs
pub mod Kept
pub mod Listing
pub mod Filling
pub mod Attributes
pub mod Brought
pub mod Making
