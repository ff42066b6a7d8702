-- The named form of trees over the table: each node has the name of its row and tells its span, size and height, and each part has its slot.
use Rattle.std.specs.Prelude.{ℕ, ◌-◌, List, [], ◌∷◌, ◌++◌}
use Rattle.tree_model.specs.Rows.{Row}
use Rattle.tree_model.specs.Trees as plain
use Rattle.tree_model.specs.Trees.{place}
use Rattle.tree_model.specs.Extents.{node_over}
use Rattle.grammar_model.specs.Trees.{Tree, Forest, Part, node, no_parts, part, taken, inner, missing}

-- the slot of a spot: one less, and 0 for the left operand, whose spot is 0
abbrev pub slot_of : ℕ → ℕ
slot_of p = p - 1

-- trees with the names of their rows, where each row's number has a name
abbrev mutual
  pub named : (ℕ → Row) → Tree → plain.Tree
  named name (node r f) = node_over (name r) (named_parts name f)

  pub named_parts : (ℕ → Row) → Forest → plain.Forest
  named_parts name no_parts = plain.no_parts
  named_parts name (part p c f) = plain.part (slot_of p) (named_part name c) (named_parts name f)

  pub named_part : (ℕ → Row) → Part → plain.Part
  named_part name (taken t) = plain.taken t
  named_part name (inner t) = plain.inner (named name t)
  named_part name (missing p) = plain.missing (place p p)

-- the node of a part, if it is one
abbrev pub inner_of : plain.Part → List plain.Tree
inner_of (plain.taken t) = []
inner_of (plain.inner t) = t ∷ []
inner_of (plain.missing p) = []

-- the nodes among parts
abbrev pub forest_items : plain.Forest → List plain.Tree
forest_items plain.no_parts = []
forest_items (plain.part slot p ps) = inner_of p ++ forest_items ps

-- the items of a whole text: the nodes among the parts of its tree
abbrev pub items_of : plain.Tree → List plain.Tree
items_of (plain.node r x ps) = forest_items ps
