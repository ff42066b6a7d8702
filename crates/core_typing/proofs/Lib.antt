-- The laws of bindings, cases, records and items.
pub mod CasePlaces
pub mod Tokens
pub mod CaseLaws
pub mod LetLaws
pub mod LabelLaws
pub mod RecordCarrying
pub mod ItemLaws
