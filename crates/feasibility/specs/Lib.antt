pub mod Verdicts
pub mod Chosen
pub mod Outcomes
