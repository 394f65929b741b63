pub mod ControlLaw
pub mod HelpersTable
