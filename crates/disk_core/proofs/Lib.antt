pub mod TornLaws
pub mod RunLaws
mod PastLemmas
mod Lists
mod TornLemmas
mod CountLemmas
