mod TitleLemmas
mod PlaceLemmas
