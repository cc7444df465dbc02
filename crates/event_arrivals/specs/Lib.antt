pub mod Arrivals
pub mod Counts
pub mod Fault
pub mod Kept
pub mod Next
pub mod Rows
pub mod Spaced
