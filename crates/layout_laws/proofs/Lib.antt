pub mod SwapLemmas
pub mod StayLemmas
pub mod RunLemmas
pub mod LiveLemmas
pub mod LaidLemmas
pub mod PlanLemmas
pub mod WeightLemmas
pub mod IndexLemmas
pub mod LawLemmas
mod WorkedRuns
