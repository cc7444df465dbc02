pub mod Fault
pub mod FillText
pub mod KindNames
pub mod Number
pub mod Ranges
pub mod RowsValue
pub mod Table
