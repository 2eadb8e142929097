pub mod Histories
pub mod ViewLists
pub mod Looks
pub mod Splits
pub mod Joins
pub mod Turns
pub mod Passes
pub mod Clients
