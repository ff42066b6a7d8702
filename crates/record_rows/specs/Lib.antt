-- What the functions that type records carry.
pub mod Fields
pub mod Operands
pub mod Values
pub mod Completing
pub mod ValueOperands
pub mod RecordExpressions
pub mod NonExpansive
