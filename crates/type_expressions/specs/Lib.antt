-- The parts of type expressions, and what has a written type.
pub mod Operands
pub mod Written
pub mod Items
pub mod Untyped
