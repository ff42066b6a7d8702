-- The node that a query of changes asks about, and the texts that are tried.
pub mod Rows
pub mod Node
pub mod Trials
