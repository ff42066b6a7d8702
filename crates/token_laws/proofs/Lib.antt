pub mod Sorts
pub mod OneKind
pub mod Ones
pub mod Steadies
