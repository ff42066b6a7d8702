-- What environments, scopes and labels of the code mean, and the index of an environment.
pub mod Views
pub mod Index
pub mod Scopes
pub mod Labels
