-- What a type of its own is in the definitions and as it is written, items that declare one, and what declarations add.
pub mod Shapes
pub mod Written
pub mod Adding
pub mod Items
