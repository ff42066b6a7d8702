-- Trees whose nodes have the number of their row and whose parts the number of their spot in it.
use Rattle.std.specs.Prelude.{ℕ, ◌+◌, max, List, [], ◌∷◌, ◌++◌}
use Rattle.token_model.specs.Kinds.{Tok}

mutual
  -- a row with its parts
  pub data Tree : Type 0 where
    node : ℕ → Forest → Tree

  -- the spot of each part, and the part
  pub data Forest : Type 0 where
    no_parts : Forest
    part : ℕ → Part → Forest → Forest

  -- a token, a node, or a part that is missing, at a place of the text
  pub data Part : Type 0 where
    taken : Tok → Part
    inner : Tree → Part
    missing : ℕ → Part

-- the number of the row of a node
abbrev pub row_of : Tree → ℕ
row_of (node r f) = r

-- the taken tokens in order
abbrev mutual
  pub yield_of : Tree → List Tok
  yield_of (node r f) = forest_yield f

  pub forest_yield : Forest → List Tok
  forest_yield no_parts = []
  forest_yield (part p c f) = part_yield c ++ forest_yield f

  pub part_yield : Part → List Tok
  part_yield (taken t) = t ∷ []
  part_yield (inner t) = yield_of t
  part_yield (missing place) = []

abbrev mutual
  -- how many nodes stand in one another at most
  pub height_of : Tree → ℕ
  height_of (node r f) = 1 + forest_height f

  pub forest_height : Forest → ℕ
  forest_height no_parts = 0
  forest_height (part p c f) = max (part_height c) (forest_height f)

  pub part_height : Part → ℕ
  part_height (taken t) = 0
  part_height (inner t) = height_of t
  part_height (missing place) = 0

-- the number of missing parts
abbrev mutual
  pub holes_of : Tree → ℕ
  holes_of (node r f) = forest_holes f

  pub forest_holes : Forest → ℕ
  forest_holes no_parts = 0
  forest_holes (part p c f) = part_holes c + forest_holes f

  pub part_holes : Part → ℕ
  part_holes (taken t) = 0
  part_holes (inner t) = holes_of t
  part_holes (missing place) = 1
