pub mod Pages
pub mod TypedSlots
