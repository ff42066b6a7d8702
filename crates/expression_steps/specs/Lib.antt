-- What the rows and parts of expressions are, and what leaves, operators and records carry.
pub mod Forms
pub mod Heads
pub mod Leaves
pub mod Operators
pub mod Records
