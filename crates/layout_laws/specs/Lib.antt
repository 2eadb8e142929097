pub mod Places
pub mod Steps
pub mod Weight
pub mod LayoutLaws
