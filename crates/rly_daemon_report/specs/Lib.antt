pub mod Counts
pub mod HopCounts
pub mod LinkCounts
pub mod Hops
pub mod ReportText
pub mod CountedReport
