pub mod InTurnLemmas
pub mod RightLemmas
pub mod PlayLemmas
pub mod StepLemmas
pub mod GatherLemmas
pub mod ProgressLemmas
pub mod LegalLemmas
pub mod PlayedLemmas
pub mod WatchLemmas
mod WorkedRuns
mod WorkedOrders
mod WorkedWatches
