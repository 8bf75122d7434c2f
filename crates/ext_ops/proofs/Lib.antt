pub mod WhiteLemmas
pub mod EntryLemmas
pub mod HookLemmas
pub mod NameLemmas
