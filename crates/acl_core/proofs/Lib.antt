pub mod NameLemmas
pub mod ListLemmas
pub mod WordLemmas
pub mod GrantLemmas
