pub mod HelpersRelocation
pub mod Relocation
pub mod Collection
pub mod Faults
pub mod HelpersCollection
