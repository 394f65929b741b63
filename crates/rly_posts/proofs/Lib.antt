pub mod CountedPosts
pub mod SoundNeighbours
pub mod Sending
mod Led
pub mod WatchedPosts
