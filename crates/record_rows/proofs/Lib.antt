-- The laws of records.
pub mod Opened
pub mod Fields
pub mod Punned
pub mod Rows
pub mod Going
pub mod Operands
pub mod Nodes
pub mod Values
pub mod Completing
pub mod RecordExpressions
pub mod ValueOperands
pub mod RecordNodes
pub mod NonExpansive
