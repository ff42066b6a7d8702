pub mod Thawing
pub mod Standing
pub mod Covering
pub mod Attempts
pub mod Unknowns
