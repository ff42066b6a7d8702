mod Bits
mod Forks
mod Newest
mod Lost
pub mod Makers
