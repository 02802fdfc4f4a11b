pub mod Auditing
pub mod Folder
pub mod Insertions
pub mod Pruning
pub mod Publishing
pub mod Reading
pub mod Registry
pub mod Sources
