-- The faults of the types and names of a text.
pub mod Refused
pub mod Values
pub mod Messages
