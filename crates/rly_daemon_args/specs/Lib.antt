pub mod CommandLine
pub mod HelpersBuilt
