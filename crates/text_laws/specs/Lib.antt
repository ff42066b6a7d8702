-- A whole text whose items were typed, and the choice that is read off the state after them.
pub mod Texts
pub mod Reading
pub mod Stopped
