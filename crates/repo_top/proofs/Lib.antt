pub mod SessionLemmas
pub mod LawLemmas
pub mod FileLemmas
pub mod StartLemmas
pub mod AnswerLemmas
pub mod Ends
pub mod Completeness
pub mod Lines
