-- Which values patterns match, and what rows of patterns miss.
pub mod Values
pub mod Forms
pub mod Rows
pub mod Shown
pub mod Printed
