pub mod Epochs
pub mod Fault
pub mod Table
