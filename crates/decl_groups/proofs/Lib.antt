mod Rows
pub mod Marks
