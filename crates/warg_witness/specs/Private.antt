-- What only clauses of private functions name; no public clause or law rests on it.
pub mod MapMeeting
pub mod Meeting
pub mod Divergence
pub mod Turns
pub mod Agreement
