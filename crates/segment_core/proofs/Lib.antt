pub mod ListsLemmas
pub mod SegmentLemmas
pub mod PartLemmas
pub mod AskedLemmas
pub mod FoundLemmas
pub mod CodeLemmas
pub mod HashLemmas
pub mod ShownLemmas
pub mod PositionLemmas
pub mod ColumnLemmas
mod PlanLemmas
pub mod PlacedLemmas
