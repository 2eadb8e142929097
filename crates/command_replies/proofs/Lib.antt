pub mod LoadLemmas
pub mod ReplaceLemmas
pub mod PastLemmas
pub mod SearchLemmas
pub mod MergeLemmas
pub mod HeldLemmas
