pub mod LogBundles
pub mod Bundling
pub mod MapBundles
pub mod Served
pub mod Private
