mod Answering
pub mod Carrying
pub mod Completing
pub mod Naming
pub mod Proposing
pub mod Sizing
pub mod Typing
pub mod Works
