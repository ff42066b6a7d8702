-- The last node at an offset, as one descent through the tree finds it. It is the last of `nodes_at`.
use Rattle.std.specs.Prelude.{ℕ, ◌+◌, List, [], ◌∷◌, Option, Some, None, option_map, ◌&&◌, if◌then◌else◌}
use Rattle.std.specs.Option.{option_or}
use Rattle.tree_model.specs.Rows.{Row}
use Rattle.tree_model.specs.Slots.{is_operand}
use Rattle.tree_model.specs.Trees.{Tree, Forest, Part, node, no_parts, part, taken, inner, missing, part_size}
use Rattle.tree_model.specs.Nodes.{holds, id, Id}

-- the number of the last node in preorder that holds the offset, where the first has the number n
abbrev mutual
  pub last_holder : ℕ → ℕ → Tree → Option ℕ
  last_holder o n (node r x ps) = option_or (last_in o (n + 1) r ps) (if holds o x.span then Some n else None)

  -- the same among the parts of a row, of which the first has the number n
  pub last_in : ℕ → ℕ → Row → Forest → Option ℕ
  last_in o n r no_parts = None
  last_in o n r (part slot p ps) = option_or (last_in o (n + part_size r slot p) r ps) (last_in_part o n r slot p)

  -- the same in one part
  pub last_in_part : ℕ → ℕ → Row → ℕ → Part → Option ℕ
  last_in_part o n r slot (taken t) = None
  last_in_part o n r slot (inner t) = last_holder o n t
  last_in_part o n r slot (missing p) = if is_operand r slot && holds o p then Some n else None

-- the last node of these items that holds the offset, where the first item has the number i
abbrev pub last_id : ℕ → ℕ → List Tree → Option Id
last_id o i [] = None
last_id o i (t ∷ ts) = option_or (last_id o (i + 1) ts) (option_map (id i) (last_holder o 0 t))
