pub mod Demand
pub mod Multiples
