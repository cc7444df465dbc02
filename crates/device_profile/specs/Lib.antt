pub mod Answer
pub mod InRange
pub mod Keys
pub mod Profile
pub mod Told
