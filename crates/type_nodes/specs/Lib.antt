-- The store of type nodes: links, readings, states, and what its writes change.
pub mod Nodes
pub mod Links
pub mod States
pub mod Views
pub mod Changes
pub mod Readings
