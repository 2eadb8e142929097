pub mod ApartLemmas
mod WithinLemmas
pub mod SlotLemmas
pub mod PassLemmas
mod OrderLemmas
