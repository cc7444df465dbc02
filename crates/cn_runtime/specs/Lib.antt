pub mod Planned
pub mod Steady
pub mod OnTime
pub mod Resumed
