-- How names of the prelude are made, one after the other.
pub mod Making
