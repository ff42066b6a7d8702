pub mod Frames
pub mod Adding
mod Bare
pub mod Exceptions
pub mod Shapes
pub mod Types
pub mod Entries
mod Written
pub mod Declared
pub mod Grouped
pub mod Within
pub mod TypeItems
pub mod Judged
