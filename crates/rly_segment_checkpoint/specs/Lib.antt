pub mod Widths
pub mod Checkpoint
pub mod HelpersFitting
pub mod Forms
pub mod HelpersReader
pub mod HelpersRows
pub mod Stored
pub mod HelpersStored
