pub mod NewRouter
pub mod Handles
pub mod Parts
