pub mod NodeLemmas
pub mod RootLemmas
pub mod BalancedLemmas
pub mod AppendLemmas
pub mod SliceLemmas
pub mod WayLemmas
pub mod CutLemmas
pub mod ReadLemmas
pub mod OrderLemmas
pub mod StepLemmas
pub mod ClimbLemmas
pub mod EvaluationLemmas
pub mod SparseLemmas
pub mod StackLemmas
pub mod ImageLemmas
pub mod TreeLemmas
mod FaultLemmas
pub mod ForCallers
mod DecimalLemmas
mod TextLemmas
pub mod PremiseLemmas
