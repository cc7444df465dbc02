pub mod Calm
pub mod Claims
pub mod Numbers
pub mod Chosen
pub mod Laws
