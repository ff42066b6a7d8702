-- Types, substitutions, schemes and their instances.
pub mod Types
pub mod Substitutions
pub mod Schemes
pub mod Origins
pub mod Limits
