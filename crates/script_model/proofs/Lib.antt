pub mod NumberLemmas
pub mod ScriptLemmas
pub mod AskedLemmas
pub mod LinesLemmas
pub mod LimitLemmas
mod WorkedScripts
