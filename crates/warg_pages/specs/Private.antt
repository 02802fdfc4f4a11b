-- What only clauses of private functions name; no public clause or law rests on it.
pub mod Descents
pub mod Finals
pub mod Ranges
pub mod Updates
pub mod SlotUpdates
pub mod Visited
