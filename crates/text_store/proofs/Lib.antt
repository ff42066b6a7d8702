pub mod LineStarts
pub mod LinePlaces
pub mod Outcomes
pub mod Wholes
