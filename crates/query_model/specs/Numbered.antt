-- The node of a number.
use Rattle.std.specs.Prelude.{ℕ, zero, suc, ◌+◌, ◌<◌, ◌^◌, ◌==◌, List, slice_get, Option, Some, None, option_and_then, if◌then◌else◌}
use Rattle.std.specs.Option.{option_or}
use Rattle.tree_model.specs.Rows.{Row}
use Rattle.tree_model.specs.Trees.{Tree, Forest, Part, node, no_parts, part, taken, inner, missing, part_size, size_of, IsSized, IsPartSized}
use Rattle.tree_model.specs.Nodes.{Id}

-- the node with the number w, among a node with the number n and those inside; a missing operand is none
abbrev mutual
  pub numbered : ℕ → ℕ → Tree → Option Tree
  numbered w n (node r x ps) = if n == w then Some (node r x ps) else numbered_among w (n + 1) r ps

  -- the same among the parts of a node, the first of which has the number n
  pub numbered_among : ℕ → ℕ → Row → Forest → Option Tree
  numbered_among w n r no_parts = None
  numbered_among w n r (part slot p ps) = option_or (numbered_part w n p) (numbered_among w (n + part_size r slot p) r ps)

  -- the same of a part with the number n
  pub numbered_part : ℕ → ℕ → Part → Option Tree
  numbered_part w n (taken t) = None
  numbered_part w n (inner t) = numbered w n t
  numbered_part w n (missing p) = None

-- the tree tells its sizes, and there are numbers for all of its nodes, the first of which has the number n
abbrev pub HasNumbers : ℕ → Tree → Type 0
HasNumbers n t = IsSized t × (n + size_of t < 2 ^ 32)

-- the same of a part in a slot of a row
abbrev pub HasPartNumbers : ℕ → Row → ℕ → Part → Type 0
HasPartNumbers n r slot p = IsPartSized p × (n + part_size r slot p < 2 ^ 32)

-- the item of a number; the first has the number 1
abbrev pub item_with : ℕ → List Tree → Option Tree
item_with zero items = None
item_with (suc k) items = slice_get items k

-- the node of a text
abbrev pub node_with : Id → List Tree → Option Tree
node_with i items = option_and_then (numbered i.pre 0) (item_with i.item items)
