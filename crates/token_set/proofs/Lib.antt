pub mod BitLemmas
pub mod OrderLemmas
