pub mod FolderLog
pub mod Folders
pub mod Neighbour
pub mod Duties
pub mod WatchedFolders
