pub mod BellSteps
pub mod Turns
pub mod Sending
pub mod Waits
