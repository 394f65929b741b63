pub mod FileFolder
pub mod FileNames
pub mod Listing
pub mod Root
pub mod SubFolders
