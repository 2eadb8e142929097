pub mod Answering
pub mod Pasts
pub mod Gathered
pub mod Opened
pub mod Together
