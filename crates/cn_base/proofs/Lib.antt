pub mod LineSums
pub mod NestLaws
