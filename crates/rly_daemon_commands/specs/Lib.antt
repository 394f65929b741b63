pub mod FileDisk
pub mod FormatCommand
pub mod NewKey
pub mod PlanCommand
pub mod IdsFile
pub mod OptionFaults
pub mod Commands
