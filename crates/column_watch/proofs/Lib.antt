pub mod OrderLemmas
pub mod HolderLemmas
pub mod IndexLemmas
pub mod PartLemmas
pub mod CountLemmas
pub mod StateLemmas
