pub mod Applying
pub mod Generalising
pub mod Limiting
pub mod Replacing
