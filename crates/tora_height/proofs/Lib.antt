pub mod Ranges
pub mod OrderLemmas
