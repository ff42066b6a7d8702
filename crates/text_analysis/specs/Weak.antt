-- What is known of the variables that were found for each item.
use Rattle.std.specs.Prelude.{◌≡◌, ℕ, List, [], ◌∷◌, length, take, slice_get, Some}
use Rattle.tree_model.specs.Trees.{Tree}
use Rattle.type_nodes.specs.Nodes.{Node}
use Rattle.type_nodes.specs.States.{state_at}
use Rattle.row_parts.specs.Numbered.{Numbered}
use Rattle.env_table.specs.declared.entries.Entry.{Entry}
use Rattle.typing_state.specs.declared.parts.Parts.{Parts}
use Rattle.module_typing.specs.Items.{AreCarriedItems, AddsValues}
use Rattle.weak_variables.specs.Listed.{IsListed}
use Rattle.text_analysis.specs.declared.point.Point.{Point}
use Rattle.text_analysis.specs.Given.{operands_of, Opens}

-- each of these items is a `let` or `;;`
abbrev pub AllAdd : List Numbered → Type 0
AllAdd [] = Unit {0}
AllAdd (o ∷ os) = AddsValues o.part × AllAdd os

-- Variables were found for each of these items, which were typed from a first state to these nodes and names. Where the items are `let` and `;;`, they are those that are free in the types of the names after the first ones.
pub record HasFree (first : Parts) (env : List Entry) (items : List Tree) (nodes : List Node) (now : List Entry) (free : List (List ℕ)) : Type 0 where
  pub counted : length free ≡ length items
  pub listed : Opens first env → AreCarriedItems (operands_of items) → AllAdd (operands_of items) → IsListed nodes env now free

-- So it is in the state that each point brings back.
pub record AreFreeAt (first : Parts) (env : List Entry) (items : List Tree) (free : List (List ℕ)) (ps : List Point) (at : Parts) : Type 0 where
  pub each : (k : ℕ) (p : Point) → slice_get ps k ≡ Some p → HasFree first env (take k items) (state_at at.store p.mark.0) p.env (take k free)
