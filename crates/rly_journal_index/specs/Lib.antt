pub mod IndexRelation
pub mod Index
pub mod HelpersCounters
