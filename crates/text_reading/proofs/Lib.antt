pub mod Fronts
pub mod Parsing
pub mod Places
pub mod ReadAs
pub mod Trying
pub mod Knowing
pub mod Spent
