pub mod FolderCommands
pub mod HelpersInput
pub mod Input
pub mod Looks
