-- How many items an analysis types, what its faults are, and what it has recorded for the nodes of items.
pub mod Typed
pub mod Faults
pub mod Types
