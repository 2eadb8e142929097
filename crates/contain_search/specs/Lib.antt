pub mod Contained
pub mod Enough
pub mod Met
pub mod Ready
