pub mod KeptLemmas
pub mod CountLemmas
pub mod WriteLemmas
pub mod TakeLemmas
pub mod GiveLemmas
pub mod ItemLemmas
pub mod ChangeLemmas
