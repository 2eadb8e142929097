pub mod KeepingLemmas
mod LayoutLemmas
mod NumberedLemmas
mod ListedLemmas
mod QuotedLemmas
