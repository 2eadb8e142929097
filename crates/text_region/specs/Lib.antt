pub mod Written
pub mod Spans
pub mod Laws
