pub mod Turns
pub mod Growing
pub mod Seat
pub mod Closing
pub mod Admitting
pub mod Lanes
