-- What patterns bind, and what is told of their names.
pub mod Matching
pub mod Names
pub mod Records
