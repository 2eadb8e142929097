pub mod Lanes
pub mod Plays
