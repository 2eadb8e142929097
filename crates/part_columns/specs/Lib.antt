pub mod Tallies
pub mod Columns
pub mod Room
