pub mod Splitting
pub mod Terms
pub mod Trying
pub mod Typed
