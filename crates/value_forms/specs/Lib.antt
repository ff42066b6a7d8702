-- What operands of expressions are, and the labels and values of records.
pub mod Heads
pub mod RecordValues
