pub mod HopEvents
pub mod HopRuns
pub mod Rests
