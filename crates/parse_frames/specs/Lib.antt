pub mod Frames
pub mod Named
pub mod View
pub mod Stacks
