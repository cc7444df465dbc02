pub mod Counted
pub mod Events
pub mod KeptLemmas
pub mod OneNext
pub mod Orders
pub mod Sound
pub mod Steps
pub mod Told
