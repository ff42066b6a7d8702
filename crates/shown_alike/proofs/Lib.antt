pub mod Texts
pub mod Shown
pub mod AtNodes
pub mod Behind
pub mod Weak
pub mod Programs
pub mod Messages
pub mod Faults
