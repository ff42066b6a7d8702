-- The items that an analysis holds, what typing them gives, the points before them, and what is shown of them.
pub mod Given
pub mod Items
pub mod Points
pub mod Shown
pub mod Typed
pub mod Weak
