pub mod GrowingLemmas
pub mod PairLemmas
pub mod TurnLemmas
pub mod ClosingLemmas
pub mod AdmissionLemmas
pub mod LaneLemmas
pub mod DoorLemmas
pub mod StateLemmas
