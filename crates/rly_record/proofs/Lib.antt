pub mod Fields
pub mod Readers
pub mod Loops
pub mod Records
pub mod Bodies
pub mod Written
