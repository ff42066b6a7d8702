-- The laws of rows of patterns.
pub mod Naming
pub mod Opened
pub mod Recorded
pub mod Terms
pub mod Leaves
pub mod Ordered
pub mod Typed
pub mod Listed
pub mod Beside
pub mod Going
pub mod Matching
pub mod Applied
