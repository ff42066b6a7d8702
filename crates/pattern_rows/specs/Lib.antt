-- Names that patterns bind, and what is carried of rows of patterns.
pub mod Applied
pub mod Bounds
pub mod CarriedPatterns
pub mod Contracts
pub mod Named
pub mod Sides
