pub mod Beginnings
pub mod Outcomes
pub mod Asking
