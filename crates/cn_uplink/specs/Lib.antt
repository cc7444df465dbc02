pub mod Faithful
pub mod Fault
pub mod Link
pub mod Log
pub mod Table
pub mod Text
pub mod Wire
