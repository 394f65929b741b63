pub mod ReorderBuffer
pub mod ReorderRuns
pub mod ReorderedLink
