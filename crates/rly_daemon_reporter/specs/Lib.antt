pub mod ReporterRun
pub mod HelpersReporterRun
pub mod CountedLink
pub mod ReporterAtSeat
pub mod HelpersReporterAtSeat
pub mod TalliedLink
