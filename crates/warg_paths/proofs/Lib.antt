pub mod ForCallers
mod PathLemmas
mod MakeLemmas
mod BytesLemmas
mod LawLemmas
mod GrowthLemmas
mod TurnLemmas
mod UniqueLemmas
mod UniqueGrowthLemmas
mod KnownLemmas
pub mod PremiseLemmas
