-- What only clauses of private functions name; no public clause or law rests on it.
pub mod Grown
pub mod Lone
pub mod Seen
pub mod Under
pub mod Walk
