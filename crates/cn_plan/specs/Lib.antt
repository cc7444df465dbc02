pub mod Harvest
pub mod Whole
pub mod Least
pub mod Plan
