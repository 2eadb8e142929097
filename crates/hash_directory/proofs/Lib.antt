pub mod FilterLemmas
pub mod StartLemmas
