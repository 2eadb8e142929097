pub mod Plain
pub mod Ranges
pub mod Generator
pub mod Makes
