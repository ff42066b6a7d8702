-- Copies of types, and tuples whose parts are made one with other types.
pub mod Copying
pub mod Filling
