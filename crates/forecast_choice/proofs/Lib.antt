pub mod Choices
pub mod One
