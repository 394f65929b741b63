-- Composition and Ranges are for the proofs of the crates above.
pub mod Common
pub mod Composition
pub mod Making
pub mod Overwritten
pub mod Ranges
mod RecordLemmas
pub mod Traces
mod TracedCalls
pub mod TriedRows
pub mod TriedReads
