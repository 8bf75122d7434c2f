pub mod OneAnswer
pub mod AnswerLemmas
pub mod AskLemmas
