-- What a text was read as, and what is known of its types.
pub mod PlainTexts
pub mod Settled
pub mod Structures
pub mod TreeCodes
pub mod Trials
pub mod Types
