pub mod JournalLemmas
pub mod LakeLemmas
