pub mod Refusing
pub mod Collecting
pub mod Answering
pub mod Joining
pub mod Watching
pub mod Crashing
pub mod Serving
