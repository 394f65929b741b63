pub mod ServedRelay
pub mod WallReportClock
pub mod ReportedRelay
pub mod Helpers
