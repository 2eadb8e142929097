pub mod TokenLemmas
pub mod KeyLemmas
pub mod ColumnLemmas
pub mod OverlapLemmas
pub mod BoundLemmas
pub mod FilterLemmas
pub mod LooksLemmas
pub mod RankLemmas
mod WorkedRuns
