pub mod Failures
pub mod FailsTable
pub mod Fault
pub mod Timeline
pub mod TraceTable
