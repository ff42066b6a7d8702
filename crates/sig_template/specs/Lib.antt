-- Templates: the abstract types that they make, and the newest components of structures.
pub mod Abstract
pub mod Structures
pub mod Ways
pub mod Changed
pub mod Live
pub mod Turns
pub mod Realising
pub mod Finding
