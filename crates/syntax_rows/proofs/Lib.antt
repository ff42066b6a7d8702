pub mod KindsApart
pub mod Bounds
pub mod Chains
pub mod LastEdge
pub mod Named
