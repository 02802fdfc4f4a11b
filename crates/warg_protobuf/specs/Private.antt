-- What only clauses of private functions name; no public clause or law rests on it.
pub mod Lent
pub mod Taking
pub mod Adds
pub mod Stored
