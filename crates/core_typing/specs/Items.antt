-- What the call for an item's `let` gives, and what is done of items in order, for the crate that types them.
pub use Rattle.binding_rows.specs.Outside.{Outside, OnlyBetween}
pub use Rattle.binding_rows.specs.ItemRows.{IsItemNode, IsExceptionNode, GivesLet, ItemsDone, IsCarriedPart, IsCarriedItemOperand, item_at, items_at}
pub use Rattle.typing_rows.specs.Noted.{AreNoted}
