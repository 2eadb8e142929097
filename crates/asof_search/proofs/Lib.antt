mod HistoryLemmas
mod PutLemmas
mod BlockLemmas
mod TimelineLemmas
mod TakeLemmas
