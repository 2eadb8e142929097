pub mod HeadLemmas
pub mod FallLemmas
pub mod ClosedLemmas
pub mod CoverLemmas
pub mod GainLemmas
pub mod OfferLemmas
pub mod ListLemmas
