pub mod Paths
pub mod BoundsValue
pub mod Greatest
pub mod Pass
