pub mod Faultless
pub mod Counted
pub mod Formed
pub mod Promises
pub mod Laws
pub mod Examples
