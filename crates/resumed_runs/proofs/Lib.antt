pub mod Settings
pub mod Fitting
pub mod Leaving
