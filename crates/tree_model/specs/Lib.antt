pub mod Rows
pub mod Slots
pub mod Trees
pub mod Nodes
pub mod Extents
pub mod Lasts
