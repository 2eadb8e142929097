pub mod FillLemmas
pub mod InverseLemmas
pub mod AddLemmas
pub mod HoldLemmas
pub mod BuildLemmas
pub mod StretchLemmas
pub mod HashingLemmas
