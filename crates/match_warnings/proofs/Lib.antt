-- What only warns.
pub mod Warned
-- What rows of a match see of a pattern.
mod Patterns
-- What calls find of patterns.
mod Finding
-- The fields of a record pattern.
mod Fields
-- Which warnings are reported.
mod Reported
