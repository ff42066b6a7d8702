pub mod Starts
pub mod Edits
