-- Rows and lines of patterns, the search for a value that none matches, and what the code's values mean.
pub mod Lines
pub mod Weights
pub mod Search
pub mod Cells
pub mod Views
pub mod Known
pub mod Rows
pub mod Marks
pub mod Typing
pub mod Exact
pub mod Printed
