pub mod Lasts
pub mod Extents
