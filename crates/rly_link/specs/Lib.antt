pub mod LinkHistory
pub mod Memory
