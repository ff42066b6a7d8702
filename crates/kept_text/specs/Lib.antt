-- What is kept of a text.
pub mod Keeping
