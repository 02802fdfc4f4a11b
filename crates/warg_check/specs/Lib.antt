pub mod Verdicts
pub mod CheckpointVerdicts
pub mod UpdateVerdicts
pub mod PathVerdicts
pub mod Claims
