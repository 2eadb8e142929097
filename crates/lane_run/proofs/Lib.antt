mod NumberedLemmas
pub mod Serving
mod Gathering
mod Served
