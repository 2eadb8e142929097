mod SaidFacts
mod GoingFacts
pub mod FetchFacts
pub mod LawLemmas
mod WordFacts
mod DigitFacts
mod SayFacts
mod LineFacts
mod BackFacts
mod StayFacts
