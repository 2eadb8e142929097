pub mod DigitLemmas
pub mod ListLemmas
pub mod TestLemmas
