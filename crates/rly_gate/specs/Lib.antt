pub mod Calls
pub mod Group
pub mod HelpersGroupReads
pub mod GroupReads
