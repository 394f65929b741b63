pub mod Appending
pub mod Common
pub mod Frames
pub mod Holding
pub mod Rereading
