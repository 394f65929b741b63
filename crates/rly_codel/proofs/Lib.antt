pub mod Fronts
pub mod LoopCases
pub mod Candidates
pub mod Bounds
