pub mod Standing
pub mod Searching
pub mod Names
pub mod Listing
mod Over
pub mod Behind
pub mod Weak
mod Walked
