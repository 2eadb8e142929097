mod StretchLemmas
mod TurnLemmas
mod LakeLemmas
mod ReplayLemmas
