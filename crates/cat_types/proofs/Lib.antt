pub mod Adding
pub mod Finding
pub mod Declaring
pub mod Lengths
