-- What is known of the items of a typer, from one call to the next.
use Rattle.std.proofs.Common.{List}
use Rattle.std.proofs.Math.Logic.{∥∥₁_map}
use Rattle.env_table.specs.declared.entries.Entry.{Entry}
use Rattle.typing_state.specs.declared.parts.Parts.{Parts}
use Rattle.text_analysis.specs.declared.typed_items.TypedItems.{TypedItems}
use Rattle.text_analysis.specs.Typed.{AreTyped, IsKnown}

-- a call that keeps the points and the state after the items keeps what is known of them
pub known_kept : (old new : TypedItems) → ∥ IsKnown old ∥₁ → ((first : Parts) (env : List Entry) → AreTyped first env old → AreTyped first env new) → ∥ IsKnown new ∥₁
known_kept old new known keeps = ∥∥₁_map known (λ k. (k.0, k.1, k.2, keeps k.0 k.1 k.3))
