pub mod Utf8
pub mod LetterLemmas
pub mod PointerLemmas
pub mod WordLemmas
pub mod ReachLemmas
