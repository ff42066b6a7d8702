-- The laws of records.
pub mod Finding
pub mod Declared
pub mod Uses
pub mod Tuples
pub mod Demanded
pub mod Typed
pub mod Joined
pub mod Named
pub mod InRecord
pub mod Fielded
pub mod Noted
