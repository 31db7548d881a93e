pub mod Links
pub mod KeyFile
pub mod Notices
