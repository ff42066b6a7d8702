-- The parts of a row by their slots: operands with their numbers, and tokens.
use Rattle.std.specs.Prelude.{ℕ, ◌+◌, ◌-◌, ◌^◌, ◌==◌, min, List, [], ◌∷◌, map, Option, Some, None, option_map, if◌then◌else◌}
use Rattle.text_terms.specs.declared.Span.{Span}
use Rattle.token_model.specs.Kinds.{Tok}
use Rattle.tree_model.specs.Rows.{Row}
use Rattle.tree_model.specs.Slots.{is_operand}
use Rattle.tree_model.specs.Trees.{Place, place, Tree, Forest, Part, node, no_parts, part, taken, inner, missing}
use Rattle.tree_model.specs.Extents.{extent_of, told_size}
use Rattle.syntax_tree.specs.declared.tree.Node.{Node}
use Rattle.syntax_tree.specs.declared.tree.Token.{Token}
use Rattle.syntax_tree.specs.View.{place_of, tok_of, node_view}
use denote.Ref.{Bor}
use Rattle.row_parts.specs.declared.slots.Operand.{Operand}
use Rattle.row_parts.specs.declared.paths.WrittenPath.{WrittenPath}

-- an operand: its number in the item, where it stands, and what stands there
pub record Numbered : Type 0 where
  pub number : ℕ
  pub at : Place
  pub part : Part

-- an operand with this number at this place
abbrev pub numbered : ℕ → Place → Part → Numbered
numbered n at p = record { number = n; at = at; part = p }

-- so many numbers behind a number; there is none above the largest of 32 bits
abbrev pub behind : ℕ → ℕ → ℕ
behind n k = min (n + k) (2 ^ 32 - 1)

-- a node as an operand with this number
abbrev pub node_with : ℕ → Tree → Numbered
node_with n t = numbered n (extent_of t).span (inner t)

-- a missing operand with this number, where it is missed
abbrev pub missing_operand : ℕ → Place → Numbered
missing_operand n at = numbered n at (missing at)

-- what a part in a slot is as an operand with this number: a token is none, be it there or missing
abbrev pub operand_at : ℕ → Row → ℕ → Part → Option Numbered
operand_at n r s (taken t) = None
operand_at n r s (inner t) = Some (node_with n t)
operand_at n r s (missing at) = if is_operand r s then Some (missing_operand n at) else None

-- what stands in slots, behind one that may be there
abbrev pub with_slot : {A : Type 0} → ℕ → Option A → List (ℕ × A) → List (ℕ × A)
with_slot s None os = os
with_slot s (Some o) os = (s, o) ∷ os

-- the operands of a row with their slots, in order, where the first part has this number
unfoldable pub operands_from : ℕ → Row → Forest → List (ℕ × Numbered)
operands_from n r no_parts = []
operands_from n r (part s p ps) = with_slot s (operand_at n r s p) (operands_from (behind n (told_size r s p)) r ps)

-- the operands of a node with this number, in order
abbrev pub operands_with_slots : ℕ → Tree → List (ℕ × Numbered)
operands_with_slots n (node r x ps) = operands_from (behind n 1) r ps

-- what stands in a slot
abbrev pub in_slot : {A : Type 0} → ℕ → List (ℕ × A) → List A
in_slot s [] = []
in_slot s (o ∷ os) = if o.0 == s then o.1 ∷ in_slot s os else in_slot s os

-- what stands in all slots
abbrev pub in_slots : {A : Type 0} → List (ℕ × A) → List A
in_slots [] = []
in_slots (o ∷ os) = o.1 ∷ in_slots os

-- the first of a list
abbrev pub first_of : {A : Type 0} → List A → Option A
first_of [] = None
first_of (x ∷ xs) = Some x

-- the operands in a slot of a node with this number
abbrev pub operands_in : ℕ → Tree → ℕ → List Numbered
operands_in n t s = in_slot s (operands_with_slots n t)

-- all operands of a node with this number
abbrev pub all_operands : ℕ → Tree → List Numbered
all_operands n t = in_slots (operands_with_slots n t)

-- the first operand in a slot of a node with this number
abbrev pub first_in : ℕ → Tree → ℕ → Option Numbered
first_in n t s = first_of (operands_in n t s)

-- a missing operand at the end of a node
abbrev pub missing_at_end : ℕ → Tree → Numbered
missing_at_end n t = missing_operand n (place (extent_of t).span.end (extent_of t).span.end)

-- the same, or, where a slot that must be filled holds none, a missing one at the node's end
abbrev pub filled_in : ℕ → Tree → ℕ → Numbered
filled_in n t s = elim (first_in n t s) [ None ↦ missing_at_end n t | Some o ↦ o ]

-- the row of what stands at an operand; a missing one has none
abbrev pub row_at : Part → Option Row
row_at (taken t) = None
row_at (inner (node r x ps)) = Some r
row_at (missing at) = None

-- the token that a part is; None where it is missing, and for a node
abbrev pub token_of : Part → Option Tok
token_of (taken t) = Some t
token_of (inner t) = None
token_of (missing at) = None

-- the token that a part in a slot is, where it is this slot
abbrev pub token_at : ℕ → ℕ → Part → Option Tok
token_at s q p = if q == s then token_of p else None

-- tokens behind one that may be there
abbrev pub with_token : Option Tok → List Tok → List Tok
with_token None ts = ts
with_token (Some t) ts = t ∷ ts

-- the tokens in a slot, in order
abbrev pub tokens_from : ℕ → Forest → List Tok
tokens_from s no_parts = []
tokens_from s (part q p ps) = with_token (token_at s q p) (tokens_from s ps)

-- those of a node
abbrev pub tokens_in : Tree → ℕ → List Tok
tokens_in (node r x ps) s = tokens_from s ps

-- the first token in a slot of a node
abbrev pub token_in : Tree → ℕ → Option Tok
token_in t s = first_of (tokens_in t s)

-- what is taken in a slot, in order, with None for each that isn't there
abbrev pub tokens_or_none_from : ℕ → Forest → List (Option Tok)
tokens_or_none_from s no_parts = []
tokens_or_none_from s (part q p ps) = if q == s then token_of p ∷ tokens_or_none_from s ps else tokens_or_none_from s ps

-- the same of a node
abbrev pub tokens_or_none_in : Tree → ℕ → List (Option Tok)
tokens_or_none_in (node r x ps) s = tokens_or_none_from s ps

-- a path as it is written: the qualifiers and the last token, which may be missing
pub record Written : Type 0 where
  pub qualifiers : List Tok
  pub last : Option Tok

-- the path whose qualifiers and whose last token stand in two slots of a node
abbrev pub path_in : Tree → ℕ → ℕ → Written
path_in t q l = record { qualifiers = tokens_in t q; last = token_in t l }

-- what stands at an operand of the code
abbrev pub part_of : Option (Bor Node) → Span → Part
part_of None at = missing (place_of at)
part_of (Some n) at = inner (node_view n.now)

-- an operand of the code
abbrev pub operand_view : Operand → Numbered
operand_view o = numbered o.number (place_of o.span) (part_of o.node o.span)

-- a token of the code that may be there
abbrev pub token_view : Option (Bor Token) → Option Tok
token_view t = option_map (λ t. tok_of t.now) t

-- a path of the code
abbrev pub path_view : WrittenPath → Written
path_view p = record { qualifiers = map (λ t. tok_of t.now) p.qualifiers.items; last = token_view p.last }
