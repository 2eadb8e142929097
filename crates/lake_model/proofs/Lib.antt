pub mod SortingLemmas
pub mod AnswerLemmas
pub mod DistinctLemmas
pub mod LayoutLemmas
mod WorkedRuns
mod WorkedKeys
