pub mod Events
mod FaultCalls
mod LawLemmas
mod Listing
mod MemCalls
pub mod Names
mod RecordLemmas
