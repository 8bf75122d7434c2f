pub mod Kept
pub mod QuestionLemmas
pub mod AnswerLemmas
pub mod Keys
pub mod SoundAnswers
