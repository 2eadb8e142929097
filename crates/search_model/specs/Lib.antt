pub mod Segment
pub mod Choosers
pub mod Looks
pub mod Arrays
pub mod Ranks
pub mod Contain
