pub mod Utc
pub mod PlanText
pub mod PlanAdvice
pub mod CodelText
pub mod AddressForms
pub mod PlanWarnings
