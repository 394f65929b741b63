pub mod Beginnings
pub mod Counts
pub mod Replies
