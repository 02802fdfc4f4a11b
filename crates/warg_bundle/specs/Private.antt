-- What only clauses of private functions name; no public clause or law rests on it.
pub mod Checks
pub mod KeyBundles
pub mod Unions
pub mod Needed
