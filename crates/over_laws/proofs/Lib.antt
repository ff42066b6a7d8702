pub mod Told
pub mod Types
pub mod Patterns
pub mod Expressions
pub mod Records
pub mod Bindings
pub mod Rows
pub mod Texts
