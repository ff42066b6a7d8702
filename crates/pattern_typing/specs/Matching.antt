-- What patterns bind, as plain values.
use denote.Ref.{Bor}
use Rattle.std.specs.Prelude.{◌≡◌, ℕ, ◌++◌, List, map, slice_get, Option, Some}
use Rattle.token_model.specs.Kinds.{Tok}
use Rattle.tree_model.specs.Trees.{Place}
use Rattle.signature_model.specs.Declarations.{Name}
use Rattle.syntax_tree.specs.View.{place_of, tok_of}
use Rattle.syntax_tree.specs.declared.tree.Token.{Token}
use Rattle.row_parts.specs.Numbered.{Numbered, operand_view}
use Rattle.env_table.specs.declared.entries.Entry.{Entry}
use Rattle.typing_state.specs.declared.parts.Parts.{Parts}
use Rattle.type_expressions.specs.Written.{AsksWritten}
use Rattle.use_typing.specs.Labels.{toks_of}
use Rattle.pattern_names.specs.PatternNames.{Side}
use Rattle.pattern_rows.specs.Bounds.{Bind}
use Rattle.pattern_rows.specs.Sides as rules
use Rattle.pattern_typing.specs.declared.patterns.BoundName.{BoundName}
use Rattle.pattern_typing.specs.declared.patterns.SideMatch.{SideMatch}
use Rattle.pattern_typing.specs.declared.patterns.TypedPart.{TypedPart}

-- the tokens of names
abbrev pub tokens_of : List BoundName → List Tok
tokens_of bs = map (λ b. tok_of b.token.now) bs

-- these names stand behind those from before
pub record Binds (old new : List BoundName) (more : List Tok) : Type 0 where
  pub bound : tokens_of new ≡ tokens_of old ++ more

-- a name with its type
abbrev pub bind_of : BoundName → Bind
bind_of b = record { token = tok_of b.token.now; node = b.node; entry = b.entry.value }

-- names with their types
abbrev pub binds_of : List BoundName → List Bind
binds_of bs = map bind_of bs

-- the names of tokens
abbrev pub names_seen : List (Bor Token) → List Name
names_seen ts = map (λ t. t.name) (toks_of ts)

-- a side of an or-pattern
abbrev pub side_view : SideMatch → Side
side_view s = record { at = place_of s.part.span; names = tokens_of s.names.items }

-- a side with the node of its type, and its names with their types
abbrev pub side_of : SideMatch → rules.Side
side_of s = record { node = s.ty.0; names = binds_of s.names.items }

-- the operands that are sides
abbrev pub parts_of_sides : List SideMatch → List Numbered
parts_of_sides ss = map (λ s. operand_view s.part) ss

-- the operands that were typed
abbrev pub typed_view : List TypedPart → List Numbered
typed_view ts = map (λ t. operand_view t.part) ts

-- the nodes of their types
abbrev pub nodes_of : List TypedPart → List ℕ
nodes_of ts = map (λ t. t.ty.0) ts

-- the first of parts with these nodes is asked to have the type that is written after it, if any
abbrev pub AsksFirst : (a b : Parts) → List Entry → Option Numbered → Place → List ℕ → ℕ → Type 0
AsksFirst a b env given at ms m = (found : ℕ) × (slice_get ms 0 ≡ Some found) × AsksWritten a b env given at found m
