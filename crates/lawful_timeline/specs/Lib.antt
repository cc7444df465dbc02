pub mod Claims
pub mod Ending
pub mod Lines
pub mod Points
pub mod Starting
pub mod Working
