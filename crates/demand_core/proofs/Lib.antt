pub mod Sums
pub mod Closing
pub mod Points
pub mod Windows
pub mod Divisors
pub mod Ample
