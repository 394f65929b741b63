pub mod SegmentChoice
pub mod Room
pub mod RemovedPayloads
pub mod Placed
pub mod Places
pub mod LiveRoom
