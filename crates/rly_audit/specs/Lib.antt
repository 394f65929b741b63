pub mod Report
pub mod Audit
pub mod Made
