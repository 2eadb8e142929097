pub mod AsciiLemmas
pub mod FoldLemmas
pub mod SameKeyLemmas
