-- What a session says of its text, and what the values of the code mean there.
pub mod Lines
pub mod Queries
pub mod Working
