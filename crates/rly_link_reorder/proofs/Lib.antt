pub mod Came
pub mod Marked
