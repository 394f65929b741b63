pub mod SpoolLog
