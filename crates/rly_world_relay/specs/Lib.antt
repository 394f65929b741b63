pub mod HelpersRounds
pub mod HelpersSeats
pub mod Relay
pub mod RelayRounds
pub mod Steps
