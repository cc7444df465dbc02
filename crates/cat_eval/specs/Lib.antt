pub mod StateValue
pub mod Cursor
pub mod Steps
pub mod Places
