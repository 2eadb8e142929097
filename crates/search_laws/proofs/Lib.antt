pub mod SelectLemmas
pub mod PartLemmas
pub mod TableLemmas
pub mod AnswerOfLog
pub mod FoundLemmas
pub mod SightLemmas
pub mod NeedLemmas
