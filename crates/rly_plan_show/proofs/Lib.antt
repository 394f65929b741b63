pub mod Counts
pub mod Lines
pub mod Dates
mod Warned
