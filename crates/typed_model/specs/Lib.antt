-- Environments with values and exceptions in front of another, and the types of the nodes of a text.
pub mod Over
pub mod Shown
pub mod Weak
