-- What uses of names, labels and constants ask, tell and give.
pub mod Paths
pub mod Uses
pub mod Constants
pub mod Labels
pub mod Mentions
pub mod Records
