pub mod Flows
pub mod Digits
