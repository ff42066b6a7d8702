-- What the nodes of the store denote inside a declaration.
pub mod Assignments
-- What becomes of the scopes of variables.
pub mod Unknowns
-- What functions that read type expressions denote.
pub mod Contracts
pub mod Operands
pub mod Applied
