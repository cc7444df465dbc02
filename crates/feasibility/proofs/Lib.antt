pub mod Lists
pub mod Short
pub mod Closed
pub mod Vectors
pub mod Refused
