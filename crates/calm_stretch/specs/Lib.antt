pub mod Loads
pub mod Moment
pub mod Operations
pub mod Rows
pub mod Laws
