pub mod Steps
pub mod Told
pub mod Goes
pub mod Served
pub mod Once
pub mod Same
pub mod Tells
mod Arrived
