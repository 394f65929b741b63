pub mod Threads
pub mod Kept
pub mod Seating
pub mod RelayEnds
