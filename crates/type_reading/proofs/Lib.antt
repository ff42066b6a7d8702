pub mod Extending
pub mod Declaring
pub mod Copied
pub mod Tasks
pub mod Imaging
pub mod Answering
pub mod Filling
