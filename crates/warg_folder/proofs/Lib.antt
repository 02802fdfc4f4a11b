mod ListLemmas
mod RunLemmas
mod StepLemmas
mod ReadLemmas
mod MemoryLemmas
mod ListedLemmas
mod ReadyLemmas
pub mod ForCallers
