pub mod Cut
pub mod Relay
pub mod HelpersCut
