-- The laws of patterns that are bound, of the end of a group, and of written type variables.
pub mod ParameterLaws
pub mod ClosingLaws
pub mod GroupLaws
pub mod VariableLaws
