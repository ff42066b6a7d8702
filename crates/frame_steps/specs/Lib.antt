pub mod Told
pub mod Order
pub mod Course
pub mod View
pub mod Reached
