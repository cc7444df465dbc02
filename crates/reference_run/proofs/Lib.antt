pub mod Advancing
pub mod Going
pub mod Nexts
pub mod Unique
