pub mod Richer
pub mod Undegraded
pub mod Verdicts
pub mod OnePlan
