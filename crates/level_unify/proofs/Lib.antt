pub mod Numbers
pub mod Walking
mod Sizes
mod Weights
mod Loosely
pub mod Steps
mod Differing
pub mod Solving
mod Recording
mod Limiting
mod Under
mod SameNodes
mod Lowering
mod Capping
mod Passes
pub mod Unified
mod Inside
mod Likeness
mod Clashing
mod Binding
pub mod AllFree
mod Images
mod Sources
pub mod Variants
pub mod Instances
mod Instancing
mod Freezing
pub mod Unbound
pub mod Tightening
