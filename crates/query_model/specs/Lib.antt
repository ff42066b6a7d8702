-- What the queries tell of a text, over plain trees.
pub mod Faults
pub mod NameTokens
pub mod Numbered
pub mod Outlines
pub mod PrefixParts
pub mod Prefixes
pub mod ScopeNodes
pub mod Touching
pub mod TypedNodes
