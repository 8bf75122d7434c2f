pub mod Prefixes
pub mod Flow
pub mod Outcomes
pub mod LinkLemmas
pub mod Framings
pub mod Sessions
pub mod Transcripts
pub mod OneInputLemmas
