pub mod EmptyLemmas
pub mod ForCallers
mod FramedLemmas
mod CompareLemmas
mod QuickSha256
