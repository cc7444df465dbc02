pub mod Asked
pub mod Degrades
pub mod Serving
