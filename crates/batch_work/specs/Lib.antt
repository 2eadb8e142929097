pub mod Named
pub mod Works
