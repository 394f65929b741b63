pub mod Forms
pub mod Getting
pub mod Holding
pub mod Putting
pub mod Reading
pub mod Runs
pub mod Writers
