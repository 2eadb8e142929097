mod WorkLemmas
mod LaneLemmas
mod TurnLemmas
mod ShareLemmas
mod GatherLemmas
mod BatchLemmas
