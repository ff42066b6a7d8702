-- The operands, tokens and paths of a row, by their slots.
pub mod Numbered
pub mod Folds
