pub mod BundleEquality
pub mod BundleLemmas
pub mod NeededLemmas
pub mod SourceLemmas
pub mod ServeLemmas
mod LargeLemmas
