pub mod BackRoutes
pub mod HeardData
pub mod LinkCauses
pub mod LinkLog
pub mod Seen
pub mod SentData
pub mod Silence
pub mod SourceLog
