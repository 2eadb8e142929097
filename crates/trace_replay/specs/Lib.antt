pub mod Lakes
pub mod Stretches
