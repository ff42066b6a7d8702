-- The terms that may stand in place of a hole.
pub mod Terms
pub mod Wanted
