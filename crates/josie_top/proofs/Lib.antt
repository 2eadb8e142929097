mod StreamFacts
mod ReadFacts
mod MadeFacts
mod LaneFacts
mod TextFacts
mod RowFacts
mod RunFacts
pub mod MakingFacts
mod GivenFacts
mod WatchFacts
mod CheckFacts
