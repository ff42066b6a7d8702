-- The cases that stand in place of a node, and why there may be none.
pub mod Refusals
pub mod Splits
