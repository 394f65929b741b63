pub mod Packets
pub mod Grown
pub mod Receivers
pub mod Senders
pub mod RateKept
pub mod Strays
pub mod Asleep
