pub mod Pairs
pub mod Searches
pub mod Outside
pub mod Shortest
pub mod FirstHidden
pub mod Repeats
