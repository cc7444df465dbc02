pub mod Later
pub mod Coming
pub mod Alike
pub mod Ends
