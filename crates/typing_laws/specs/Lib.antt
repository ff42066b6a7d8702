-- For the laws of typings: substitutions and renamings of signatures and environments, and texts without re-exports.
pub mod Under
pub mod Renaming
pub mod Reexports
