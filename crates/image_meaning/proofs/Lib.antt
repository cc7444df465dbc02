pub mod Behind
pub mod Committing
