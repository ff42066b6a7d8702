-- The laws of names, labels and constants, and of what is read on the way.
pub mod Reading
pub mod Mentioning
pub mod Telling
pub mod Carrying
pub mod ConstantLaws
pub mod Asked
pub mod LostLaws
pub mod Constructions
pub mod Recording
