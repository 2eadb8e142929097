mod DigitLemmas
mod TierLemmas
mod PlannedLemmas
