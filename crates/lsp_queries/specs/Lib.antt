-- What an editor is answered on one text: the replies of the line protocol, translated.
pub mod Shown
pub mod Diagnostics
pub mod Prefixes
pub mod Scopes
pub mod Values
pub mod Answers
pub mod Calls
pub mod Symbols
pub mod Actions
