pub mod Callers
pub mod Replies
pub mod Rooms
