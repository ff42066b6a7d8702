-- The text of a type: the types that nodes show, the names of variables, the paths of origins, and the pieces that are written.
pub mod Shown
pub mod Pieces
pub mod Ways
pub mod Paths
pub mod Scopes
pub mod Texts
pub mod Meeting
