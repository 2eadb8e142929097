pub mod CutLemmas
pub mod ReaderLemmas
pub mod SplitLemmas
pub mod FaultLemmas
pub mod TableLemmas
pub mod TableLawLemmas
pub mod WideLemmas
pub mod LineLemmas
