pub mod SoundLemmas
pub mod PremiseLemmas
pub mod OwnLemmas
pub mod HasLemmas
pub mod AuditLemmas
pub mod ConvictLemmas
pub mod StepPremiseLemmas
pub mod BundlePremiseLemmas
