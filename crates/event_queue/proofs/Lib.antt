pub mod Heads
pub mod Ticks
