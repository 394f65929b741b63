pub mod LaneItems
pub mod Start
pub mod Front
pub mod DropTimes
pub mod Cases
pub mod Loop
