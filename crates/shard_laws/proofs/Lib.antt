pub mod ShardLemmas
mod WorkedRuns
