pub mod Lines
pub mod Balance
mod Asking
