-- Which variables are free in the types of names, and what is found of them.
pub mod Free
pub mod Listed
pub mod Search
pub mod Over
