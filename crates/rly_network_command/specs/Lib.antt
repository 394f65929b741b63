pub mod NetworkCheck
pub mod NetworkFiles
pub mod NetworkWrite
