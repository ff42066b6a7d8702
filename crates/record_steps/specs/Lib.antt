-- What the labels of a record tell.
pub mod Alike
pub mod Named
pub mod Recording
