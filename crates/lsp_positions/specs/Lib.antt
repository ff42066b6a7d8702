-- How the code reads a text in two parts, and what columns count, by the definitions.
pub mod Texts
