-- Nodes that are told with their types.
pub mod Told
