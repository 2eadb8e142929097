pub mod WithinLemmas
pub mod EndLemmas
pub mod FrontLemmas
mod WorkedReplay
