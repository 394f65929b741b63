pub mod Stations
pub mod Disagreements
pub mod Texts
pub mod Links
pub mod Paths
pub mod Check
pub mod Network
