pub mod Positions
pub mod Slots
pub mod Turns
