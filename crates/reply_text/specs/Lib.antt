pub mod Keeping
pub mod Lines
pub mod Quoted
pub mod Words
