-- The last node that an offset touches: in its names the offset stands.
use Rattle.std.specs.Prelude.{ℕ, ◌+◌, List, [], ◌∷◌, Bool, ◌&&◌, nat_le, Option, Some, None, if◌then◌else◌}
use Rattle.std.specs.Option.{option_or}
use Rattle.tree_model.specs.Rows.{Row}
use Rattle.tree_model.specs.Slots.{is_operand}
use Rattle.tree_model.specs.Trees.{Place, Tree, Forest, Part, node, no_parts, part, taken, inner, missing, part_size}
use Rattle.tree_model.specs.Nodes.{Id, id}

-- a place touches an offset where it starts at or before it and ends at or behind it
abbrev pub touches : ℕ → Place → Bool
touches o p = nat_le p.start o && nat_le o p.end

-- the identity of a node, if a condition holds
abbrev pub id_if : Bool → Id → Option Id
id_if b i = if b then Some i else None

-- the last node or missing operand in preorder that an offset touches, in a node of an item where it has the number n
abbrev mutual
  pub touched : ℕ → ℕ → ℕ → Tree → Option Id
  touched o i n (node r x ps) = option_or (touched_among o i (n + 1) r ps) (id_if (touches o x.span) (id i n))

  -- the same among the parts of a node, the first of which has the number n
  pub touched_among : ℕ → ℕ → ℕ → Row → Forest → Option Id
  touched_among o i n r no_parts = None
  touched_among o i n r (part slot p ps) = option_or (touched_among o i (n + part_size r slot p) r ps) (touched_part o i n r slot p)

  -- the same of a part with the number n; a token counts for nothing
  pub touched_part : ℕ → ℕ → ℕ → Row → ℕ → Part → Option Id
  touched_part o i n r slot (taken t) = None
  touched_part o i n r slot (inner t) = touched o i n t
  touched_part o i n r slot (missing p) = id_if (is_operand r slot && touches o p) (id i n)

-- the same of the items of a text, the first of which has the number i
abbrev pub touched_items : ℕ → ℕ → List Tree → Option Id
touched_items o i [] = None
touched_items o i (t ∷ ts) = option_or (touched_items o (i + 1) ts) (touched o i 0 t)

-- the last node of a text that an offset touches
abbrev pub touched_at : ℕ → List Tree → Option Id
touched_at o items = touched_items o 1 items
