-- The warnings of a match.
pub mod Warnings
-- The forms of patterns.
pub mod Forms
-- The patterns of trees, as rows of a match see them.
pub mod Patterns
-- Which warnings are reported.
pub mod Reported
