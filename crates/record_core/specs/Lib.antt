pub mod Numbers
pub mod Body
pub mod Storable
pub mod Reading
pub mod Cuts
pub mod Fields
