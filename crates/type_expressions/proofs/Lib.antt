-- The laws of type expressions.
pub mod Carrying
pub mod Settling
pub mod Roots
pub mod Denoting
pub mod Filled
pub mod Answering
pub mod Naming
pub mod Untyped
pub mod Treating
