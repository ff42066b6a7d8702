-- The laws of expressions, and of the ends of rows.
pub mod LeafLaws
pub mod ConstructorLaws
pub mod CarryingLaws
pub mod EndingLaws
pub mod SettingLaws
pub mod RecordLaws
