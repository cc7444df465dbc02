pub mod Reference
pub mod Own
pub mod Laws
