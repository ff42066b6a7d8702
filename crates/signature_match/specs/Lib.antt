-- What matching tells: the newest components that are compared, what fits, the first failure, and values at each reading.
pub mod Blames
pub mod Newest
pub mod Shapes
pub mod Values
pub mod Comparing
pub mod Wanting
pub mod Telling
pub mod Anew
