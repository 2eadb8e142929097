pub mod Words
pub mod Commands
pub mod Options
pub mod Saying
pub mod Reading
pub mod Script
pub mod Lanes
