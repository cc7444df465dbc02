pub mod Turned
pub mod Engines
pub mod Prepares
pub mod Readied
pub mod RowNumbers
pub mod SteadyRows
pub mod Resumes
