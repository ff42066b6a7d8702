-- The state of the code's typing, as the definitions see it, and what calls on it do.
pub mod States
pub mod Demands
pub mod Constants
pub mod Starts
pub mod Rows
pub mod Typing
pub mod Writing
pub mod Warning
pub mod Building
