-- Texts without modules in which no declaration re-exports the constructors or the labels of another type.
use Rattle.std.specs.Prelude.{ℕ, Bool, true, false, not, ◌&&◌, ◌==◌, List, [], ◌∷◌, if◌then◌else◌}
use Rattle.tree_model.specs.Trees.{Tree, Forest, Part, node, no_parts, part, taken, inner, missing}
use Rattle.tree_model.specs.Rows.{Row, type_row, alias_row}
use Rattle.typing_model.specs.Plain.{is_value_row}

-- whether a row has a part in a slot
abbrev pub has_slot : ℕ → Forest → Bool
has_slot s no_parts = false
has_slot s (part slot p ps) = if slot == s then true else has_slot s ps

-- whether a row is none of another type with constructors or labels behind it
abbrev pub is_no_reexport : Row → Forest → Bool
is_no_reexport alias_row ps = not (has_slot 2 ps)
is_no_reexport _ ps = true

abbrev mutual
  -- whether no node of a tree is such a row
  pub is_new : Tree → Bool
  is_new (node r x ps) = is_no_reexport r ps && are_new ps

  -- the same of parts
  pub are_new : Forest → Bool
  are_new no_parts = true
  are_new (part slot p ps) = is_new_part p && are_new ps

  -- and of one part
  pub is_new_part : Part → Bool
  is_new_part (taken t) = true
  is_new_part (inner t) = is_new t
  is_new_part (missing p) = true

-- whether an item of this row, over these parts, declares types without re-exports, or is a binding, an exception or `;;`
abbrev pub is_new_item : Row → Forest → Bool
is_new_item type_row ps = are_new ps
is_new_item r ps = is_value_row r

-- whether all items of a text are such
abbrev pub has_new_types : List Tree → Bool
has_new_types [] = true
has_new_types (node r x ps ∷ ts) = is_new_item r ps && has_new_types ts
