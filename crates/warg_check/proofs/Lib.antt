pub mod VerdictLemmas
pub mod ShownLemmas
pub mod ForCallers
