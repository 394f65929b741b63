pub mod FileCalls
pub mod FileNames
pub mod Ordered
pub mod Sending
