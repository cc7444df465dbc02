pub mod InForce
pub mod Steps
pub mod Staying
pub mod Told
