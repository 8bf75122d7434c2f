pub mod Exchange
pub mod Asking
