-- What types, origins and replacements of the code mean, and when two types are equal.
pub mod Views
pub mod Same
