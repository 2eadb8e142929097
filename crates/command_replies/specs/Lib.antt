pub mod Merging
pub mod Loads
pub mod Drops
pub mod Replaces
pub mod Searches
pub mod Pasts
pub mod Held
