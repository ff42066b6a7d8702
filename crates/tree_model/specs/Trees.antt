-- Plain trees: rows with their parts in order.
use Rattle.std.specs.Prelude.{◌≡◌, ℕ, ◌+◌, ◌<◌, ◌^◌, List, [], ◌∷◌, ◌++◌}
use Rattle.token_model.specs.Kinds.{Tok}
use Rattle.tree_model.specs.Rows.{Row}
use Rattle.tree_model.specs.Slots.{missing_size}

-- from the first byte to the byte behind the last
pub record Place : Type 0 where
  pub start : ℕ
  pub end : ℕ

-- the place between two offsets
abbrev pub place : ℕ → ℕ → Place
place s e = record { start = s; end = e }

-- what a node tells of itself: where it stands, how many nodes and missing operands it has, itself included, and how high it is
pub record Extent : Type 0 where
  pub span : Place
  pub size : ℕ
  pub height : ℕ

-- the extent of a node at a place, with its size and its height
abbrev pub extent : Place → ℕ → ℕ → Extent
extent p n h = record { span = p; size = n; height = h }

mutual
  -- a row with its parts
  pub data Tree : Type 0 where
    node : Row → Extent → Forest → Tree

  -- the slot of each part in its row, and the part
  pub data Forest : Type 0 where
    no_parts : Forest
    part : ℕ → Part → Forest → Forest

  -- a part: a token, a node, or one that is missing, with the place at which it is missed
  pub data Part : Type 0 where
    taken : Tok → Part
    inner : Tree → Part
    missing : Place → Part

-- the taken tokens in order
abbrev mutual
  pub yield_of : Tree → List Tok
  yield_of (node r x ps) = forest_yield ps

  -- those of all parts of a row
  pub forest_yield : Forest → List Tok
  forest_yield no_parts = []
  forest_yield (part slot p ps) = part_yield p ++ forest_yield ps

  -- those of one part
  pub part_yield : Part → List Tok
  part_yield (taken t) = t ∷ []
  part_yield (inner t) = yield_of t
  part_yield (missing p) = []

-- how many nodes and missing operands, itself included; a missing token doesn't count
abbrev mutual
  pub size_of : Tree → ℕ
  size_of (node r x ps) = forest_size r ps + 1

  -- how many stand in all parts of a row
  pub forest_size : Row → Forest → ℕ
  forest_size r no_parts = 0
  forest_size r (part slot p ps) = part_size r slot p + forest_size r ps

  -- how many stand in one part
  pub part_size : Row → ℕ → Part → ℕ
  part_size r slot (taken t) = 0
  part_size r slot (inner t) = size_of t
  part_size r slot (missing p) = missing_size r slot

-- each node tells its true size
abbrev mutual
  pub IsSized : Tree → Type 0
  IsSized (node r x ps) = (x.size ≡ forest_size r ps + 1) × AreSized ps

  -- each node in the parts of a row tells its true size
  pub AreSized : Forest → Type 0
  AreSized no_parts = Unit {0}
  AreSized (part slot p ps) = IsPartSized p × AreSized ps

  -- each node in a part tells its true size
  pub IsPartSized : Part → Type 0
  IsPartSized (taken t) = Unit {0}
  IsPartSized (inner t) = IsSized t
  IsPartSized (missing p) = Unit {0}

-- each of these items tells its true sizes, and has fewer than 2^32 nodes and missing operands
abbrev pub AreItemsSized : List Tree → Type 0
AreItemsSized [] = Unit {0}
AreItemsSized (t ∷ ts) = IsSized t × (size_of t < 2 ^ 32) × AreItemsSized ts
