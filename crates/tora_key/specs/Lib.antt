pub mod Hmac
pub mod Sealing
