-- The sorts of the parts of each row.
pub mod Sorts
