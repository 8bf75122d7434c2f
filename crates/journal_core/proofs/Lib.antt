mod Lists
mod Results
mod Fields
pub mod Written
mod Parts
mod Commits
mod Causes
mod Unique
pub mod Meanings
pub mod LawLemmas
mod Headers
mod Founding
mod Reading
mod Writing
mod Staging
mod Opens
mod Adding
mod Gathering
mod Turning
