pub mod Kinds
pub mod Bytes
pub mod Words
pub mod Spellings
pub mod Comments
pub mod Tokens
