-- Schemes on the store: when one has all instances of another, what is left of the readings then, and unknown types.
pub mod Covering
pub mod Unknown
