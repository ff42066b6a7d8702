-- Rows whose conditions are carried, and what is carried of them.
pub mod CarriedPatternRows
pub mod CarriedRows
pub mod Asked
pub mod Contracts
pub mod Fields
pub mod Loops
pub mod Valued
-- What is carried of type expressions.
pub mod TypeContracts
pub mod Rows
pub mod Declaring
pub mod Operands
-- What is settled of type expressions in declarations.
pub mod Settled
pub mod Around
pub mod DeclaredContracts
pub mod DeclaredOperands
pub mod Noted
-- The names in scope that are recorded for them.
pub mod Treating
