-- What declarations of types and exceptions ask, what their nodes denote, and which entries they add.
pub mod Fresh
pub mod Settling
pub mod Labels
pub mod Denoting
pub mod Entering
pub mod Parts
pub mod LabelParts
pub mod Parameters
pub mod Owned
pub mod Asked
pub mod Entries
pub mod Groups
