pub mod Counter
pub mod History
pub mod Laws
pub mod Passes
pub mod Rule
pub mod Told
