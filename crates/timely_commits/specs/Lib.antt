pub mod Timely
pub mod InTime
