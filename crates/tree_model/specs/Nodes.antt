-- The nodes at an offset. Nodes and missing operands are numbered in preorder, from 0 within each item of a text; items are numbered from 1.
use Rattle.std.specs.Prelude.{ℕ, ◌+◌, List, [], ◌∷◌, ◌++◌, map, Bool, ◌||◌, ◌&&◌, ◌==◌, nat_le, nat_lt, Option, Some, None, if◌then◌else◌}
use Rattle.tree_model.specs.Rows.{Row}
use Rattle.tree_model.specs.Slots.{is_operand}
use Rattle.tree_model.specs.Trees.{Place, Tree, Forest, Part, node, no_parts, part, taken, inner, missing, part_size}

-- A place holds an offset where it starts at or before it and ends behind it, or is empty there.
abbrev pub holds : ℕ → Place → Bool
holds o p = nat_le p.start o && (nat_lt o p.end || p.start == o && p.end == o)

-- a number alone in a list, or no number
abbrev pub only_if : Bool → ℕ → List ℕ
only_if b n = if b then n ∷ [] else []

-- the numbers of the nodes and missing operands that hold an offset, in preorder, where the first has the number n
abbrev mutual
  pub holders : ℕ → ℕ → Tree → List ℕ
  holders o n (node r x ps) = only_if (holds o x.span) n ++ forest_holders o (n + 1) r ps

  -- the same among the parts of a row, of which the first has the number n
  pub forest_holders : ℕ → ℕ → Row → Forest → List ℕ
  forest_holders o n r no_parts = []
  forest_holders o n r (part slot p ps) = part_holders o n r slot p ++ forest_holders o (n + part_size r slot p) r ps

  -- the same in one part
  pub part_holders : ℕ → ℕ → Row → ℕ → Part → List ℕ
  part_holders o n r slot (taken t) = []
  part_holders o n r slot (inner t) = holders o n t
  part_holders o n r slot (missing p) = only_if (is_operand r slot && holds o p) n

-- a node of a text: its item, and its number in it
pub record Id : Type 0 where
  pub item : ℕ
  pub pre : ℕ

-- the node with a number in an item
abbrev pub id : ℕ → ℕ → Id
id i n = record { item = i; pre = n }

-- the nodes of these items that hold an offset, in order, where the first item has the number i
abbrev pub items_holders : ℕ → ℕ → List Tree → List Id
items_holders o i [] = []
items_holders o i (t ∷ ts) = map (id i) (holders o 0 t) ++ items_holders o (i + 1) ts

-- the nodes of a text that hold an offset, in order
abbrev pub nodes_at : ℕ → List Tree → List Id
nodes_at o items = items_holders o 1 items

-- the last of a list, if there is one
abbrev pub last_of : {A : Type 0} → List A → Option A
last_of [] = None
last_of (x ∷ []) = Some x
last_of (x ∷ y ∷ ys) = last_of (y ∷ ys)
