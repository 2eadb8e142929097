pub mod GroupLemmas
pub mod TraceLemmas
