-- What is asked about at an offset: the innermost typed node.
use Rattle.std.specs.Prelude.{◌≡◌, ℕ, List, Option, Some, None, option_map, option_and_then}
use Rattle.query_model.specs.TypedNodes.{Typed}
use Rattle.env_table.specs.declared.entries.Entry.{Entry}
use Rattle.env_table.specs.declared.seen.Seen.{Seen}
use Rattle.syntax_tree.specs.Names.{row_of}
use Rattle.syntax_tree.specs.View.{place_of, trees_of}
use Rattle.typed_index.specs.Seen.{seen_at}
use Rattle.query_engine.specs.declared.asked.Asked.{Asked}
use Rattle.asked_node.specs.declared.node.AskedNode.{AskedNode}
use Rattle.asked_node.specs.declared.node.Typing.{Typing}
use Rattle.asked_node.specs.Rows.{row_at}

-- the node of the type that is recorded for a node, and the names in scope there
abbrev pub typed_as : Seen → Option (ℕ × List Entry)
typed_as s = option_map (λ n. (n.0, s.env)) s.ty

-- the same of the node of a number in an item
abbrev pub typing_at : Asked → ℕ → ℕ → Option (ℕ × List Entry)
typing_at a i n = option_and_then typed_as (seen_at a.index.now i n)

-- what the code tells: the node of a type, and the names in scope
abbrev pub typing_of : Typing → ℕ × List Entry
typing_of t = (t.ty.0, t.env.now)

-- a typed node of a text: where it stands, its row, its type and the names in scope
pub record IsNode (a : Asked) (t : Typed) (n : AskedNode) : Type 0 where
  pub span : place_of n.span ≡ t.span
  pub row : option_map row_of n.row ≡ row_at (trees_of a.tree.now) t.id.item t.id.pre
  pub typing : option_map typing_of n.typing ≡ typing_at a t.id.item t.id.pre

-- the innermost typed node at an offset, or none where there is none
abbrev pub IsAsked : Asked → Option Typed → Option AskedNode → Type 0
IsAsked a None None = Unit {0}
IsAsked a None (Some n) = ⊥
IsAsked a (Some t) None = ⊥
IsAsked a (Some t) (Some n) = IsNode a t n
