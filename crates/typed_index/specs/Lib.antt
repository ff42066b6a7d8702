-- What an index has for each node.
pub mod Lists
pub mod Seen
