pub mod Files
pub mod Moments
pub mod Names
pub mod Commits
pub mod Memory
pub mod System
pub mod Private
