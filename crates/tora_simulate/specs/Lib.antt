pub mod Endings
pub mod Flushing
pub mod Paths
pub mod Statuses
