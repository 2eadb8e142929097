pub mod Watching
pub mod Held
pub mod Index
pub mod Hits
