pub mod Calls
pub mod Frames
pub mod News
pub mod Places
pub mod Served
pub mod Settling
pub mod Still
pub mod Waiting
