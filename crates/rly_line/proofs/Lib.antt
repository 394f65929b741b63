pub mod Views
pub mod Submitting
pub mod Replying
pub mod Making
pub mod ReplyHistories
pub mod Hearing
pub mod Closing
