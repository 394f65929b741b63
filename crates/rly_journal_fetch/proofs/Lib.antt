pub mod Answered
pub mod Unread
