-- What is said of changes of a text, and what a trial of one tells.
pub mod Changes
pub mod Trials
