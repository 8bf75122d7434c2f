pub mod MapLemmas
pub mod ListLemmas
pub mod LeastLemmas
pub mod Named
pub mod Soundness
pub mod AscendingLemmas
pub mod RestoreLemmas
pub mod RecordLemmas
