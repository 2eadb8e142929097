pub mod History
pub mod Laws
pub mod Rule
pub mod Passes
pub mod Lending
pub mod Roll
