-- What a run of the language server puts for the bytes of an editor, and the words that ask for one.
pub mod Words
pub mod Heard
pub mod Progress
pub mod Waiting
pub mod Outcomes
pub mod Steps
pub mod Turns
