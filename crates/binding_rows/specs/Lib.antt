-- What the functions of bindings carry.
pub mod Rights
pub mod Groups
pub mod Carried
pub mod Operands
pub mod Decided
pub mod Closing
pub mod Lets
pub mod LetGroups
pub mod LetNodes
-- What an item's own `let` does.
pub mod Scopes
pub mod Outside
pub mod Stopped
pub mod ItemGroups
pub mod ItemRows
-- What the functions of cases and of functions carry.
pub mod CaseScopes
pub mod Cases
pub mod Parameters
pub mod CaseCarried
