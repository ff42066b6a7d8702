-- What the answers of the queries of names mean in the definitions of `query_model`.
pub mod Completions
pub mod Environments
pub mod NameTokens
pub mod NewestNames
pub mod Places
pub mod Prefixes
