pub mod Worlds
pub mod Placed
pub mod Own
pub mod Audits
pub mod Convictions
