-- What declarations do between items, and what is done to declare the built-in types.
pub mod Declaring
pub mod Built
