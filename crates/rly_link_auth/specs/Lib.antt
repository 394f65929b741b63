pub mod Hmac
pub mod Keys
pub mod Seal
pub mod SealedLink
pub mod StationLink
