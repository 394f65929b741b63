pub mod PlanIds
pub mod PlanChanges
