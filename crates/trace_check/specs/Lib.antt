pub mod Checking
pub mod Right
