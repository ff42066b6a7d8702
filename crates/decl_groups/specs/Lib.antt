-- Declarations as they are written, and marks of them.
pub mod Written
pub mod Marks
