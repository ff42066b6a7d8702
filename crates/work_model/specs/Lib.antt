-- The work that a run may do.
pub mod Work
