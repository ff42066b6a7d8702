-- What a run does with the lines of an input, and what the values of the code mean there.
pub mod Begun
pub mod Causes
pub mod ListEnds
pub mod MadeRuns
pub mod Outcomes
pub mod Progress
pub mod Spending
pub mod SureEnds
pub mod Turns
pub mod Words
