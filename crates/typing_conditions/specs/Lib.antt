-- Which variables a call may touch, by levels why a variable is low, and how the environment of the store stands for that of the definitions.
pub mod Locals
pub mod Assumptions
pub mod Environments
pub mod Standing
pub mod Rows
-- How declarations, constructors and labels of the code stand for those of the definitions.
pub mod Declared
-- What typing carries on, condition by condition.
pub mod Sights
pub mod Seeing
pub mod Frames
pub mod Meanings
pub mod Judging
pub mod Hiding
pub mod Carrying
pub mod Surroundings
pub mod Steps
