-- What only clauses of private functions name; no public clause or law rests on it.
pub mod Climbs
pub mod Growth
pub mod Slices
