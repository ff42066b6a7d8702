-- How the values of answers are read by the definitions.
pub mod Puts
