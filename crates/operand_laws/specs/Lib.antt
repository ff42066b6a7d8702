-- Trees as the parser gives them, and what operands mean in the definitions of typings.
pub mod Formed
pub mod Operands
