pub mod Shown
pub mod Rules
pub mod Sorts
pub mod Capped
pub mod Mentions
