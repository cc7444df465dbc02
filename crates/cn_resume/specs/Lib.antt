pub mod Fit
pub mod Records
pub mod Saved
pub mod Stages
