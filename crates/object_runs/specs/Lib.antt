pub mod Resting
pub mod Running
pub mod Whole
pub mod Bounds
