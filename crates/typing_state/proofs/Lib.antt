pub mod Listed
pub mod Going
pub mod Faulting
pub mod Recording
pub mod Joining
pub mod Differing
pub mod Binding
pub mod Silence
