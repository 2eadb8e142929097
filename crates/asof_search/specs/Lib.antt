pub mod Puts
pub mod History
pub mod Refusals
