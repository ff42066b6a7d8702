-- Unification by level: walks through types, solutions, limits, generalisation and copies.
pub mod Walks
pub mod Plans
pub mod Solutions
pub mod Limits
pub mod Unification
pub mod Messages
pub mod Generalising
pub mod Copies
pub mod Instances
