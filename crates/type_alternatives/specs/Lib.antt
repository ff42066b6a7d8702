-- The outermost parts of a type's values, and the paths by which they are written.
pub mod Parts
pub mod Alternatives
pub mod Levels
pub mod Standing
pub mod Templates
