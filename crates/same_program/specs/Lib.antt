pub mod Same
pub mod Alike
pub mod Own
pub mod Setting
