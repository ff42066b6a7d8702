pub mod Undoing
pub mod Trails
