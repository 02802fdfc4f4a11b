pub mod PathDigits
pub mod Edges
pub mod Texts
