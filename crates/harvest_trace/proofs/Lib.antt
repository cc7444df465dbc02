pub mod FailSteps
pub mod FailureLemmas
pub mod Steps
pub mod Timelines
