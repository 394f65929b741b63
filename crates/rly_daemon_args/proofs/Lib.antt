pub mod Builders
pub mod Apps
pub mod Readings
