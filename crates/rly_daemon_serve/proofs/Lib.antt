pub mod Outcomes
pub mod Endless
pub mod Tallied
pub mod ClockStart
pub mod Below
