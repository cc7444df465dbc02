pub mod Begins
pub mod Listing
