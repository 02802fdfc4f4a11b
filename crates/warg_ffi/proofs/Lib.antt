pub mod ReturnsLemmas
