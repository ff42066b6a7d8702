-- Choices of types that agree on the record types that are re-exported.
pub mod Agreeing
