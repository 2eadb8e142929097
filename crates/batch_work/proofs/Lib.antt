pub mod WorkLemmas
pub mod GatherLemmas
