pub mod Paths
pub mod Pieces
pub mod Ways
