-- Types in place of variables on the store: what stands for a variable, what a copy is, and how copies are made.
pub mod Substituting
pub mod Copying
