mod ShownTypes
mod Items
pub mod TypeTexts
