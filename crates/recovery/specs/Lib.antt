pub mod Committed
pub mod First
pub mod Laws
pub mod Past
