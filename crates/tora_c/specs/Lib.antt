pub mod Codes
pub mod CoreNode
pub mod Readers
pub mod RouterHeld
pub mod RouterParts
pub mod Version
pub mod WorldHeld
pub mod Held
