pub mod HelpersKinds
pub mod HelpersReader
pub mod Spelling
