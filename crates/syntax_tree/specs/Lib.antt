pub mod Names
pub mod View
pub mod Yields
pub mod Tallies
