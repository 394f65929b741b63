mod Bits
mod Lines
pub mod Tags
mod SealedHistory
