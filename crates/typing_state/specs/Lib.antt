-- What a call on the state of typing changes, what it records, and the faults that it tells.
pub mod Goes
pub mod Notes
pub mod BuiltIns
pub mod Messages
pub mod Types
pub mod Demands
pub mod Places
pub mod Bound
pub mod Fresh
