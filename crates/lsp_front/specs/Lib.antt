-- How the code's values are read by the definitions.
pub mod Heads
pub mod Values
pub mod Sayings
