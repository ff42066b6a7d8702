pub mod Naming
pub mod FunctorLaws
pub mod Opening
mod Asked
pub mod Finding
pub mod BuiltRoots
