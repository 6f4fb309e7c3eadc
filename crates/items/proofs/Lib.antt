pub mod Laws
pub mod Along
