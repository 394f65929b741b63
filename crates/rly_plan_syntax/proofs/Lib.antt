pub mod DraftLemmas
pub mod NoPath
pub mod KeyTests
