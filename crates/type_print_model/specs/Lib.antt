pub mod Variables
pub mod Paths
pub mod Printing
