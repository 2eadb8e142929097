pub mod Filling
pub mod Inverse
pub mod Holding
pub mod Hashing
