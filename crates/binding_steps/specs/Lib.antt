-- Bindings as the code has typed them, written type variables, and what a match knows before its cases.
pub mod Bindings
pub mod Sides
pub mod Variables
