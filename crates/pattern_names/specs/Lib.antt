-- The names that patterns bind.
pub mod PatternNames
