pub mod EnoughLemmas
pub mod HoldLemmas
pub mod SettleLemmas
pub mod ReadLemmas
pub mod PartLemmas
pub mod RunLemmas
