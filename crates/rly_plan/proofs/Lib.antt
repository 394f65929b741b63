pub mod LinkLaws
pub mod LinkLemmas
pub mod ChangeLaws
pub mod PassLemmas
pub mod BlankTexts
pub mod SoundPlans
pub mod PathTests
pub mod EdgeWaits
