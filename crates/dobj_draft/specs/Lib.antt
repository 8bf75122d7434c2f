pub mod Draft
pub mod Waiting
pub mod Made
