pub mod WordLemmas
pub mod TextLemmas
pub mod BundledLemmas
pub mod MapLemmas
