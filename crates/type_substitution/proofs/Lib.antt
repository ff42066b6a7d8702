pub mod Standing
pub mod Copied
pub mod Made
