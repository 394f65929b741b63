pub mod RelayAnswers
pub mod RelayAppends
pub mod RelayBegins
mod RelayBooks
pub mod RelayCalls
pub mod RelayDevice
pub mod RelayEvents
pub mod RelayGoesOn
pub mod RelayHolds
pub mod RelayPhases
pub mod RelayRecords
pub mod RelayReplaces
pub mod RelayStart
pub mod RelayStill
pub mod PairLists
mod PairRuns
mod PairFetch
mod PairCoreSteps
mod PairUpper
mod PairLower
mod PairHolds
mod PairWaits
mod KeyedCase
