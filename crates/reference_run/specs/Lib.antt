pub mod Held
pub mod Reference
