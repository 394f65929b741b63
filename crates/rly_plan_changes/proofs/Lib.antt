pub mod Rows
pub mod Stretches
pub mod Others
