pub mod Properties
pub mod RequestLemmas
pub mod AppendedLemmas
